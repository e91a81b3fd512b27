-- The rule of reading a packet: the tests in their order, and what they let pass.
use Rattle.std.specs.Prelude.{ℕ, ◌+◌, Bool, cond, not, ◌&&◌, ◌||◌, List, [], ◌∷◌, length, drop, is_ok, Some, None, Ok, Option, Result, ◌==◌, bit_and, nat_le, nat_lt}
use Rattle.records.specs.declared.code.Code.{Code}
use Rattle.tecmp.specs.declared.head.Head.{Head}
use Rattle.tecmp.specs.declared.head.Stream.{Stream}
use Rattle.records.specs.declared.refusal.Refusal.{Refusal}
use Rattle.records.specs.declared.refusal.Refusal.TheVariants.{PacketTooShort, TooLong, Version, MessageType as WrongType, Module, Segmented, UnknownCode, PastEnd, NoData, NoTime, NotShared, Padding, Record}
use Rattle.tecmp.specs.Heads.{head_from, of_type, of_module}
use Rattle.tecmp.specs.Layout.{zeros, device_id, counter, version, type_byte, device_flags, message_type, code_of, interface_id, time_word, data_length, data_flags, content, time_of, has_time}
use Rattle.records.specs.Services.{Services, Service, is_served, shares_in, checked_by}
use Rattle.records.specs.Tests.{tested}

abbrev pub is_logged : List ℕ → Bool
is_logged s = type_byte s == 3

abbrev pub head_tests : Services → Option Stream → List ℕ → List (Bool × Refusal)
head_tests services stream s =
    (nat_le 28 (length s), PacketTooShort)
    ∷ (nat_le (length s) 1500, TooLong)
    ∷ ((version s == 3), Version)
    ∷ (is_logged s || (type_byte s == 10), WrongType)
    ∷ (of_type stream (message_type s), WrongType)
    ∷ (not (is_logged s) || nat_le (device_id s) 255, Module)
    ∷ (not (is_logged s) || of_module stream (device_id s), Module)
    ∷ (not (is_logged s) || (bit_and (device_flags s) 3 == 3), Segmented)
    ∷ (is_served (services (code_of s)), UnknownCode) ∷ []

abbrev pub head_of : Services → List ℕ → Head
head_of services s = head_from (device_id s) (counter s) (code_of s) (shares_in (services (code_of s)))

abbrev pub head_reading : Services → Option Stream → List ℕ → Result Head Refusal
head_reading services stream s = tested (head_tests services stream s) (Ok (head_of services s))

-- what an entry says as it stands: its code, the fields of its head, its data, and the offset of its data
pub record Entry : Type 0 where
  pub code : Code
  pub interface : ℕ
  pub time : ℕ
  pub flags : ℕ
  pub bytes : List ℕ
  pub from : ℕ

-- an entry, and the offset after it
pub record Found : Type 0 where
  pub entry : Entry
  pub next : ℕ

-- t is the rest of the packet from the offset on
abbrev pub entry_of : Code → ℕ → List ℕ → Entry
entry_of code at t = record {
  code = code;
  interface = interface_id t;
  time = time_of code.message_type (time_word t);
  flags = data_flags t;
  bytes = content t;
  from = at + 16;
}

abbrev pub found_of : Code → ℕ → List ℕ → Found
found_of code at t = record { entry = entry_of code at t; next = at + 16 + data_length t }

abbrev pub entry_tests : Service → Code → ℕ → List ℕ → List (Bool × Refusal)
entry_tests service code at t =
    (nat_le 16 (length t), PastEnd at)
    ∷ (nat_lt 0 (data_length t), NoData at)
    ∷ (nat_le (16 + data_length t) (length t), PastEnd at)
    ∷ (has_time code.message_type (time_word t), NoTime at)
    ∷ (is_ok (checked_by service (data_flags t) (content t)), Record at) ∷ []

abbrev pub Answer : Type 0
Answer = Result (Option Found) Refusal

abbrev pub here : Service → Code → ℕ → List ℕ → Answer
here service code at t = tested (entry_tests service code at t) (Ok (Some (found_of code at t)))

-- after the first entry, in a packet of n bytes: padding, or one more entry where the code shares
abbrev pub later_by : Service → Bool → Code → ℕ → ℕ → List ℕ → Answer
later_by service shares code n at t =
    cond (zeros t)
    (tested ((nat_le n 46, Padding at) ∷ []) (Ok None))
    (tested ((shares, NotShared at) ∷ []) (here service code at t))

abbrev pub of_rest_by : Service → Bool → Code → ℕ → ℕ → List ℕ → Answer
of_rest_by service shares code n at t =
    cond (length t == 0) (Ok None) (cond (nat_lt 12 at) (later_by service shares code n at t) (here service code at t))

-- at an offset of a packet, by what its head says
abbrev pub inside_by : Service → Bool → Code → List ℕ → ℕ → Answer
inside_by service shares code s at =
    tested ((nat_le 12 at && nat_le at (length s), PastEnd at) ∷ []) (of_rest_by service shares code (length s) at (drop at s))

-- the same of a packet whose head has passed: its code shares where the registry says so
abbrev pub later : Service → Code → ℕ → ℕ → List ℕ → Answer
later service code n at t = later_by service (shares_in service) code n at t

abbrev pub of_rest : Service → Code → ℕ → ℕ → List ℕ → Answer
of_rest service code n at t = of_rest_by service (shares_in service) code n at t

abbrev pub inside : Service → Code → List ℕ → ℕ → Answer
inside service code s at = inside_by service (shares_in service) code s at

abbrev pub reading : Services → List ℕ → ℕ → Answer
reading services s at =
    tested (head_tests services None s) (inside (services (code_of s)) (code_of s) s at)
