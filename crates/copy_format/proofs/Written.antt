-- An item as it is written reads as that item. Assumes nothing.
use Rattle.std.proofs.Common.{◌≡◌, ℕ, zero, suc, ◌+◌, ◌*◌, ◌^◌, ◌<◌, ◌≤◌, Bool, true, false, eqb, ltb, List, [], ◌∷◌, ◌++◌, length, slice_index, take, drop, is_ok, Some, Ok, refl, ap, ◌∙◌, arith}
use Rattle.std.proofs.lemmas.List.{take_at, length-append}
use Rattle.std.proofs.lemmas.Bool.{le-leb, lt-ltb, ltb-true, eqb-true, and_parts, cond_both}
use Rattle.std.proofs.lemmas.Bool.Decides.{nat_tests}
use Rattle.records.specs.BigEndian.{big}
use Rattle.records.specs.Services.{Service, checked_by}
use Rattle.records.specs.Tests.{tested, Passed}
use Rattle.records.specs.Verdicts.{Bytes}
use Rattle.records.specs.declared.code.Code.{Code}
use Rattle.records.proofs.Tested.{tested_passed}
use Rattle.records.proofs.Widths.{big-low}
use Rattle.tecmp.specs.Layout.{zeros, interface_id, time_word, data_length, data_flags, content, time_of, has_time}
use Rattle.tecmp.specs.Reading.{Entry, Found, entry_tests, found_of, here, later_by, of_rest_by}
use Rattle.records.specs.declared.refusal.Refusal.TheVariants.{NotShared}
use Rattle.copy_format.specs.Image.{entry_head, item_bytes}
use Rattle.copy_format.specs.Items.{Item, size}
use Rattle.copy_format.proofs.Lengths.{length-item}

-- a number in two, four and eight bytes
pub two : (a b : ℕ) → a * 256 + b ≡ big (a ∷ b ∷ [])
two a b = omega arith

pub four : (a b c d : ℕ) → a * 16777216 + b * 65536 + c * 256 + d ≡ big (a ∷ b ∷ c ∷ d ∷ [])
four a b c d = omega arith

eight : (a b c d e f g h : ℕ) → a * 72057594037927936 + b * 281474976710656 + c * 1099511627776 + d * 4294967296 + e * 16777216 + f * 65536 + g * 256 + h
    ≡ big (a ∷ b ∷ c ∷ d ∷ e ∷ f ∷ g ∷ h ∷ [])
eight a b c d e f g h = omega arith

-- an item that its kind accepts, with numbers that fit their fields
pub record Sound (service : Service) (code : Code) (i : Item) : Type 0 where
  pub own_type : i.data_type ≡ code.data_type
  pub interface_fits : i.interface < 2 ^ 32
  pub time_fits : i.time < 2 ^ 64
  pub time_whole : time_of code.message_type i.time ≡ i.time
  pub timed : has_time code.message_type i.time ≡ true
  pub flags_fit : i.flags < 2 ^ 16
  pub are_bytes : Bytes i.bytes
  pub some : 0 < length i.bytes
  pub bounded : length i.bytes ≤ 1472
  pub passes : is_ok (checked_by service i.flags i.bytes) ≡ true

module _ (i : Item) (r : List ℕ) where
  abbrev t : List ℕ
  t = item_bytes i ++ r

  interface_back : i.interface < 2 ^ 32 → interface_id t ≡ i.interface
  unfolding entry_head
  interface_back h = four _ _ _ _ ∙ big-low 4 i.interface h

  time_back : i.time < 2 ^ 64 → time_word t ≡ i.time
  unfolding entry_head
  time_back h = eight _ _ _ _ _ _ _ _ ∙ big-low 8 i.time h

  length_back : length i.bytes < 2 ^ 16 → data_length t ≡ length i.bytes
  unfolding entry_head
  length_back h = two _ _ ∙ big-low 2 (length i.bytes) h

  flags_back : i.flags < 2 ^ 16 → data_flags t ≡ i.flags
  unfolding entry_head
  flags_back h = two _ _ ∙ big-low 2 i.flags h

  after_head : drop 16 t ≡ i.bytes ++ r
  unfolding entry_head
  after_head = refl

  content_back : length i.bytes < 2 ^ 16 → content t ≡ i.bytes
  content_back h = ap (λ n. take n (drop 16 t)) (length_back h) ∙ ap (take (length i.bytes)) after_head ∙ take_at i.bytes r (length i.bytes) refl

  length_t : length t ≡ 16 + length i.bytes + length r
  length_t = let a = length-append (item_bytes i) r in let b = length-item i in omega arith

zero_at : (t : List ℕ) (k : ℕ) → zeros t ≡ true → slice_index t k ≡ 0
zero_at [] k e = refl
zero_at (b ∷ t) zero e = eqb-true b 0 (and_parts (eqb b 0) (zeros t) e).0
zero_at (b ∷ t) (suc k) e = zero_at t k (and_parts (eqb b 0) (zeros t) e).1

-- the entry that an item is read as, at an offset of a packet
abbrev pub entry_in : Code → ℕ → Item → Entry
entry_in code at i = record { code = code; interface = i.interface; time = i.time; flags = i.flags; bytes = i.bytes; from = at + 16 }

abbrev pub found_in : Code → ℕ → Item → Found
found_in code at i = record { entry = entry_in code at i; next = at + size i }

module _ (service : Service) (code : Code) (i : Item) (sound : Sound service code i) (at : ℕ) (r : List ℕ) where
  abbrev rest : List ℕ
  rest = item_bytes i ++ r

  long_enough : length i.bytes < 2 ^ 16
  long_enough = let b = sound.bounded in omega arith

  time_is : time_of code.message_type (time_word rest) ≡ i.time
  time_is = ap (time_of code.message_type) (time_back i r sound.time_fits) ∙ sound.time_whole

  found_is : found_of code at rest ≡ found_in code at i
  found_is =
      let e₁ = interface_back i r sound.interface_fits in
      let e₂ = time_is in
      let e₃ = flags_back i r sound.flags_fit in
      let e₄ = content_back i r long_enough in
      let e₅ = length_back i r long_enough in
      let e₆ : at + 16 + data_length rest ≡ at + size i = omega arith in
      cc

  tests_pass : Passed (entry_tests service code at rest)
  tests_pass =
      let l = length_t i r in
      let d = length_back i r long_enough in
      let some = sound.some in
      let timed : has_time code.message_type (time_word rest) ≡ true =
      ap (has_time code.message_type) (time_back i r sound.time_fits) ∙ sound.timed in
      let passes : is_ok (checked_by service (data_flags rest) (content rest)) ≡ true =
      rw (flags_back i r sound.flags_fit, content_back i r long_enough) sound.passes in
      (le-leb _ _ (omega arith), (lt-ltb _ _ (omega arith), (le-leb _ _ (omega arith), (timed, (passes, tt)))))

  pub read_here : here service code at rest ≡ Ok (Some (found_in code at i))
  read_here = tested_passed (entry_tests service code at rest) (Ok (Some (found_of code at rest))) tests_pass ∙ ap (λ f. Ok (Some f)) found_is

  -- it is no padding: its length stands in it
  not_zeros : zeros rest ≡ false
  not_zeros = go (zeros rest) refl
    where
      go : (b : Bool) → zeros rest ≡ b → b ≡ false
      go false e = refl
      go true e =
          let a = zero_at rest 12 e in
          let b = zero_at rest 13 e in
          let d = length_back i r long_enough in
          let some = sound.some in
          absurd (omega arith)

  -- after the first entry too, where the code shares
  pub read_later : (shares : Bool) (n : ℕ) → shares ≡ true → later_by service shares code n at rest ≡ Ok (Some (found_in code at i))
  read_later shares n e = rw not_zeros (ap (λ b. tested ((b, NotShared at) ∷ []) (here service code at rest)) e ∙ read_here)

  -- at its offset of a packet of n bytes: the first one, or one of a code that shares
  pub read_at : (shares : Bool) (n : ℕ) → (12 < at → shares ≡ true) → of_rest_by service shares code n at rest ≡ Ok (Some (found_in code at i))
  read_at shares n e =
      let l = length_t i r in
      let some : eqb (length rest) 0 ≡ false = grind (arith, nat_tests) in
      rw some (cond_both (ltb 12 at) (later_by service shares code n at rest) (here service code at rest) (λ a. a ≡ Ok (Some (found_in code at i)))
      (λ h. read_later shares n (e (ltb-true _ _ h)))
      (λ _. read_here))
