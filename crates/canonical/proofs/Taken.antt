-- The entries of a packet of the copy's stream are ones that the copy accepts. Assumes nothing.
use Rattle.std.proofs.Common.{◌≡◌, ℕ, Bool, zero, suc, ◌-◌, ◌^◌, ◌<◌, true, List, [], ◌∷◌, length, drop, Some, None, Ok, Err, Result, sym, refl, subst}
use Rattle.std.specs.List.{AllByRecursion}
use Rattle.std.proofs.ByRecursion.{All-take, All-drop}
use Rattle.records.specs.Codes.{same_type}
use Rattle.records.specs.Services.{Services, Service, shares_in}
use Rattle.records.specs.Tests.{and_then}
use Rattle.records.specs.Verdicts.{Bytes}
use Rattle.records.specs.declared.code.Code.{Code}
use Rattle.records.specs.declared.code.MessageType.{MessageType}
use Rattle.records.specs.declared.code.MessageType.TheVariants.{LoggingStream, ReplayData}
use Rattle.records.proofs.Tested.{passed}
use Rattle.tecmp.specs.Entries.{Entries, before, onward, walked_by, entries_by, entries_from, entries}
use Rattle.tecmp.specs.Layout.{message_type, code_of, time_word, data_length, time_of, has_time}
use Rattle.tecmp.specs.Reading.{Entry, Found, Answer, head_tests, inside_by}
use Rattle.tecmp.specs.declared.head.Stream.{Stream}
use Rattle.tecmp.proofs.Walks.{entered}
use Rattle.canonical.proofs.Accepted.{Accepted}
use Rattle.canonical.proofs.Ranges.{be2_below, be4_below, be8_below, time_below, time_again, time_kept}

same_type-true : (a b : MessageType) → same_type a b ≡ true → a ≡ b
same_type-true LoggingStream LoggingStream h = refl
same_type-true LoggingStream ReplayData h = cc
same_type-true ReplayData LoggingStream h = cc
same_type-true ReplayData ReplayData h = refl

pub then_ok : {A B E : Type 0} (r : Result A E) (next : A → Result B E) (y : B) → and_then r next ≡ Ok y → (x : A) × (r ≡ Ok x) × (next x ≡ Ok y)
then_ok (Ok x) next y e = (x, refl, e)
then_ok (Err w) next y e = cc

-- what holds of every entry that stands somewhere holds of all that are read
module _ (P : Entry → Type 0) where
  none_read : (es : List Entry) → ◌≡◌ {A = Entries} (Ok []) (Ok es) → AllByRecursion P es
  none_read [] e = tt
  none_read (x ∷ es) e = cc

  all_before : (e : Entry) (r : Entries) (es : List Entry) → before e r ≡ Ok es → P e → ((fs : List Entry) → r ≡ Ok fs → AllByRecursion P fs) → AllByRecursion P es
  all_before e (Ok fs) es q p rest = let z : e ∷ fs ≡ es = cc in subst (AllByRecursion P) z (p, rest fs refl)
  all_before e (Err w) es q p rest = cc

  all_onward : (a : Answer) (rest : ℕ → Entries) (es : List Entry) → onward a rest ≡ Ok es
      → ((f : Found) → a ≡ Ok (Some f) → P f.entry) → ((next : ℕ) (fs : List Entry) → rest next ≡ Ok fs → AllByRecursion P fs) → AllByRecursion P es
  all_onward (Err w) rest es q here there = cc
  all_onward (Ok None) rest es q here there = none_read es q
  all_onward (Ok (Some f)) rest es q here there = all_before f.entry (rest f.next) es q (here f refl) (there f.next)

  module _ (v : Service) (shares : Bool) (code : Code) (s : List ℕ) (each : (at : ℕ) (f : Found) → inside_by v shares code s at ≡ Ok (Some f) → P f.entry) where
    all_walked : (k n : ℕ) (es : List Entry) → walked_by v shares code s k n ≡ Ok es → AllByRecursion P es
    all_walked k zero es q = none_read es q
    all_walked (suc k) (suc n) es q = all_walked k n es q
    all_walked zero (suc n) es q =
        all_onward (inside_by v shares code s (length s - suc n)) (λ next. walked_by v shares code s (next - (length s - n)) n) es q
        (each (length s - suc n)) (λ next fs. all_walked (next - (length s - n)) n fs)

    pub all_read : (at : ℕ) (es : List Entry) → entries_by v shares code s at ≡ Ok es → AllByRecursion P es
    all_read at es q = all_onward (inside_by v shares code s at) (λ next. walked_by v shares code s 0 (length s - next)) es q (each at) (λ next fs. all_walked 0 (length s - next) fs)

module _ (services : Services) (stream : Stream) (s : List ℕ) (b : Bytes s) where
  accepted_at : (shares : Bool) (code : Code) → code.message_type ≡ stream.message_type → code.data_type < 2 ^ 16
      → (at : ℕ) (f : Found) → inside_by (services code) shares code s at ≡ Ok (Some f) → Accepted services stream f.entry
  accepted_at shares code own small at f q =
      let i = entered (services code) shares code s at f q in
      let t : List ℕ = drop at s in
      let bt : Bytes t = All-drop (λ x. x < 256) at s b in
      subst (λ (g : Found). Accepted services stream g.entry) (sym i.is) (record {
        of_stream = own;
        type_fits = small;
        interface_fits = be4_below t 0 bt;
        time_fits = time_below code.message_type (time_word t) (be8_below t 4 bt);
        time_whole = subst (λ type. time_of type (time_of code.message_type (time_word t)) ≡ time_of code.message_type (time_word t)) own (time_again code.message_type (time_word t));
        timed = subst (λ type. has_time type (time_of code.message_type (time_word t)) ≡ true) own (time_kept code.message_type (time_word t) i.tests.1.1.1.0);
        flags_fit = be2_below t 14 bt;
        are_bytes = All-take (λ x. x < 256) (data_length t) (drop 16 t) (All-drop (λ x. x < 256) 16 t bt);
        passes = i.tests.1.1.1.1.0;
      })

  pub taken_accepted : (es : List Entry) → entries services (Some stream) s ≡ Ok es → AllByRecursion (Accepted services stream) es
  taken_accepted es q =
      let code = code_of s in
      let v = services code in
      let p = passed (head_tests services (Some stream) s) (entries_from v code s 12) es q in
      let own : message_type s ≡ stream.message_type = same_type-true (message_type s) stream.message_type p.0.1.1.1.1.0 in
      all_read (Accepted services stream) v (shares_in v) code s (accepted_at (shares_in v) code own (be2_below s 6 b)) 12 es p.1
