use Rattle.std.proofs.Common.{◌≡◌, ℕ, ◌+◌, List, length, replicate, sym, refl, ap, ◌∙◌, ap₂, arith}
use Rattle.tecmp.specs.Views.{viewed}
use Rattle.copy_format.specs.Image.{entry_head, word, filling}
use Rattle.copy_format.specs.Items.{item_of, size}
use Rattle.canonical.specs.States.{spliced}
use Rattle.canonical.proofs.Appends.{four_writes}
use Rattle.canonical.proofs.Splices.{put_is}
use Rattle.canonical.proofs.entry.AcceptedEntry.append.Goals as goal

pub returns : goal.returns
returns g c =
    let p = c.args.packet in
    let out = c.args.out.now in
    let e = c.args.self.now in
    let i = item_of (g.R.Registry.services e.registry.now) (viewed e.view) in
    let n : e.count ≡ length i.bytes = e.counted in
    let m : p.size + c.size.result ≡ p.size + size i = ap (λ k. p.size + k) c.size.ensures.is in
    let q = p.begins + 4 + p.size in
    let o₁ = c.put.new.out in
    let part = c.write-flags.new.part in
    let written : part ≡ i.bytes = c.write-flags.ensures.part in
    let o₂ = spliced o₁ (q + 16) i.bytes in
    let lent = put_is (q + 16) e.count o₁ part (ap length written ∙ sym n) ∙ ap (spliced o₁ (q + 16)) written in
    let head : c.entry_head-head.result ≡ entry_head i.interface i.time (length i.bytes) i.flags =
    c.entry_head-head.ensures ∙ ap₂ {C = List ℕ} (λ k f. entry_head i.interface i.time k f) n c.write-flags.ensures.flags in
    four_writes p i out o₁ o₂ c.put-2.new.out c.put_filling.new.out q refl (omega arith)
    (c.put.ensures ∙ ap (spliced out p.begins) (c.word.ensures ∙ ap (word 1) m))
    refl
    (c.put-2.ensures ∙ ap₂ {C = List ℕ} (λ o h. spliced o q h) lent head)
    (c.put_filling.ensures ∙ ap₂ {C = List ℕ} (λ k s. spliced c.put-2.new.out (q + 16 + k) (replicate (filling s) 0)) n m)
