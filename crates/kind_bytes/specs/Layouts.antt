-- Records whose data is plain bytes.
use Rattle.std.specs.Prelude.{ℕ, ◌/◌, ◌%◌, ◌^◌, ◌<◌, ◌≤◌, Bool, cond, List, [], ◌∷◌, map, length, pos, is_some, Some, None, Option, ◌==◌, bit_and, nat_le}
use Rattle.records.specs.Codecs.{Codec}
use Rattle.records.specs.declared.code.Code.{Code}
use Rattle.records.specs.declared.code.MessageType.TheVariants.{LoggingStream}
use Rattle.records.specs.declared.refusal.RecordRefusal.{RecordRefusal}
use Rattle.records.specs.declared.refusal.RecordRefusal.TheVariants.{Length, Setting}
use Rattle.kind_bytes.specs.declared.content.Content.{Content}
use Rattle.kind_bytes.specs.declared.content.Content.TheVariants.{Uart, Ethernet}
use Rattle.kind_bytes.specs.declared.content.SymbolWidth.{SymbolWidth}
use Rattle.kind_bytes.specs.declared.content.SymbolWidth.TheVariants.{Seven, Eight}

-- what differs from kind to kind
pub record Layout : Type 0 where
  -- the flags that are kept
  pub mask : ℕ
  -- the least and the greatest number of bytes
  pub least : ℕ
  pub most : ℕ
  -- the width of a symbol by the flags as read, where their setting is allowed
  pub width : ℕ → Option SymbolWidth

-- what is to be shown of a layout
pub record Proper (l : Layout) : Type 0 where
  pub mask_fits : l.mask < 2 ^ 16
  pub some : 1 ≤ l.least
  pub bounded : l.most ≤ 1472

-- a byte without its top bit
abbrev pub low7 : ℕ → ℕ
low7 b = bit_and b 0x7F

abbrev pub byte_as : Option SymbolWidth → ℕ → ℕ
byte_as (Some Seven) b = low7 b
byte_as (Some Eight) b = b
byte_as None b = b

module _ (l : Layout) where
  abbrev pub flags_read : ℕ → ℕ
  flags_read f = bit_and f l.mask

  abbrev pub data_read : ℕ → List ℕ → List ℕ
  data_read g d = map (byte_as (l.width g)) d

  -- g is the flags as read
  abbrev pub tests_on : ℕ → List ℕ → List (Bool × RecordRefusal)
  tests_on g d = (nat_le l.least (length d), Length) ∷ (nat_le (length d) l.most, Length) ∷ (is_some (l.width g), Setting) ∷ []

  -- a record says its flags and its data as read, and is written as them
  abbrev pub codec : Codec (ℕ × List ℕ)
  codec = record {
    tests = λ f d. tests_on (flags_read f) d;
    says = λ f d. (flags_read f, data_read (flags_read f) d);
    sense = λ s. map pos (s.0 ∷ s.1);
    flags = λ s. s.0;
    bytes = λ s. s.1;
  }

-- the flags of a UART record have the width of its symbols in bits 1 to 3
abbrev pub symbol_width : ℕ → Option SymbolWidth
symbol_width g = cond (g / 2 % 8 == 2) (Some Seven) (cond (g / 2 % 8 == 3) (Some Eight) None)

abbrev pub uart : Layout
uart = record { mask = 0x400F; least = 1; most = 1000; width = symbol_width }

abbrev pub ethernet : Layout
ethernet = record { mask = 0xE000; least = 18; most = 1472; width = λ g. Some Eight }

abbrev pub layout_of : Content → Layout
layout_of Uart = uart
layout_of Ethernet = ethernet

abbrev pub uart_code : Code
uart_code = record { message_type = LoggingStream; data_type = 0x10 }

abbrev pub ethernet_code : Code
ethernet_code = record { message_type = LoggingStream; data_type = 0x80 }
