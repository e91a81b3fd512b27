-- A proper layout is sound: what is read of a record is read again as itself. Assumes nothing.
use Rattle.std.specs.Prelude.{◌≡◌, ℕ, ◌<◌, List, [], ◌∷◌, map, length, pos, Some, None, Option, refl}
use Rattle.std.proofs.Common.{sym, ap, ◌∙◌, subst, arith}
use Rattle.std.proofs.lemmas.Nat.{and_le_r}
use Rattle.std.proofs.lemmas.List.{length-map}
use Rattle.std.proofs.lemmas.Bool.{leb-true}
use Rattle.records.specs.Codecs.{Sound, verdict_of}
use Rattle.records.specs.Tests.{Passed}
use Rattle.records.specs.Verdicts.{Bytes, Lawful}
use Rattle.records.proofs.Codecs.{lawful}
use Rattle.records.proofs.Masks.{kept_again}
use Rattle.records.proofs.Whole.{map-pos}
use Rattle.kind_bytes.specs.declared.content.Content.{Content}
use Rattle.kind_bytes.specs.declared.content.Content.TheVariants.{Uart, Ethernet}
use Rattle.kind_bytes.specs.declared.content.SymbolWidth.{SymbolWidth}
use Rattle.kind_bytes.specs.declared.content.SymbolWidth.TheVariants.{Seven, Eight}
use Rattle.kind_bytes.specs.Layouts.{Layout, Proper, byte_as, flags_read, data_read, tests_on, codec, layout_of, uart, ethernet}

byte_again : (w : Option SymbolWidth) (b : ℕ) → byte_as w (byte_as w b) ≡ byte_as w b
byte_again (Some Seven) b = kept_again 0x7F b
byte_again (Some Eight) b = refl
byte_again None b = refl

byte_below : (w : Option SymbolWidth) (b : ℕ) → b < 256 → byte_as w b < 256
byte_below (Some Seven) b h = omega (arith, and_le_r b 0x7F)
byte_below (Some Eight) b h = h
byte_below None b h = h

bytes_again : (w : Option SymbolWidth) (d : List ℕ) → map (byte_as w) (map (byte_as w) d) ≡ map (byte_as w) d
bytes_again w [] = refl
bytes_again w (b ∷ d) =
    let h = byte_again w b in
    let t = bytes_again w d in
    cc

bytes_below : (w : Option SymbolWidth) (d : List ℕ) → Bytes d → Bytes (map (byte_as w) d)
bytes_below w [] h = tt
bytes_below w (b ∷ d) h = (byte_below w b h.0, bytes_below w d h.1)

apart : (s t : ℕ × List ℕ) → map pos (s.0 ∷ s.1) ≡ map pos (t.0 ∷ t.1) → s ≡ t
apart (g, d) (g', d') e =
    let all = map-pos (g ∷ d) (g' ∷ d') e in
    let flags : g ≡ g' = cc in
    let rest : d ≡ d' = cc in
    ap (λ x. (x, d)) flags ∙ ap (λ y. (g', y)) rest

pub layout_sound : (l : Layout) → Proper l → Sound (codec l)
layout_sound l ok = record {
  sized = λ f d p. (
    omega (arith, ok.some, leb-true l.least (length d) p.0),
    omega (arith, ok.bounded, leb-true (length d) l.most p.1.0),
    length-map d (byte_as (l.width (flags_read l f))),
  );
  fits = λ f d lt b p. (omega (arith, and_le_r f l.mask, ok.mask_fits), bytes_below (l.width (flags_read l f)) d b);
  -- each of the three codecs has other facts here, and `cc` puts them together
  passes = λ f d lt b p.
      let g = flags_read l f in
      let e₁ = kept_again l.mask f in
      let e₂ = length-map d (byte_as (l.width g)) in
      let same : tests_on l (flags_read l g) (data_read l g d) ≡ tests_on l g d = cc in
      subst Passed (sym same) p;
  back = λ f d lt b p.
      let g = flags_read l f in
      let e₁ = kept_again l.mask f in
      let e₂ = bytes_again (l.width g) d in
      cc;
  apart = apart;
}

pub proper : (c : Content) → Proper (layout_of c)
proper Uart = record { mask_fits = omega arith; some = omega arith; bounded = omega arith }
proper Ethernet = record { mask_fits = omega arith; some = omega arith; bounded = omega arith }

pub sound : (c : Content) → Sound (codec (layout_of c))
sound c = layout_sound (layout_of c) (proper c)

pub bytes_lawful : (c : Content) → Lawful (verdict_of (codec (layout_of c)))
bytes_lawful c = lawful (codec (layout_of c)) (sound c)

pub uart_lawful : Lawful (verdict_of (codec uart))
uart_lawful = bytes_lawful Uart

pub ethernet_lawful : Lawful (verdict_of (codec ethernet))
ethernet_lawful = bytes_lawful Ethernet
