-- The writes of an entry, piece by piece, are one. Assumes nothing.
use Rattle.std.proofs.Common.{◌≡◌, ℕ, ◌+◌, ◌≤◌, List, ◌++◌, length, replicate, ap, ◌∙◌, arith}
use Rattle.std.proofs.lemmas.List.{length-append, length-replicate}
use Rattle.copy_format.specs.Image.{entry_head, word, filling}
use Rattle.copy_format.specs.Items.{Item, size}
use Rattle.canonical.specs.States.{spliced, appended, frame}
use Rattle.canonical.specs.declared.state.OpenPacket.{OpenPacket}
use Rattle.copy_format.proofs.Lengths.{length-word, length-entry_head}
use Rattle.canonical.proofs.Places.{length-spliced}
use Rattle.canonical.proofs.Splices.{splice_after, splice_before}

-- the word, the data, the head before it, the filling after it
module _ (p : OpenPacket) (i : Item) (out o₁ o₂ o₃ o₄ : List ℕ) (q : ℕ) where
  pub four_writes : q ≡ p.begins + 4 + p.size → p.begins + frame (p.size + size i) ≤ length out
      → o₁ ≡ spliced out p.begins (word 1 (p.size + size i))
      → o₂ ≡ spliced o₁ (q + 16) i.bytes
      → o₃ ≡ spliced o₂ q (entry_head i.interface i.time (length i.bytes) i.flags)
      → o₄ ≡ spliced o₃ (q + 16 + length i.bytes) (replicate (filling (p.size + size i)) 0)
      → o₄ ≡ appended p i out
  four_writes eq fits e₁ e₂ e₃ e₄ =
      let head = entry_head i.interface i.time (length i.bytes) i.flags in
      let zeros = replicate {A = ℕ} (filling (p.size + size i)) 0 in
      let w = word 1 (p.size + size i) in
      let y = spliced out p.begins w in
      let lw = length-word 1 (p.size + size i) in
      let lh = length-entry_head i.interface i.time (length i.bytes) i.flags in
      let lz : length zeros ≡ filling (p.size + size i) = length-replicate {A = ℕ} (filling (p.size + size i)) 0 in
      let ly : length y ≡ length out = length-spliced out w p.begins (omega arith) in
      let both : o₃ ≡ spliced y q (head ++ i.bytes) =
      e₃ ∙ ap (λ o. spliced o q head) (e₂ ∙ ap (λ o. spliced o (q + 16) i.bytes) e₁) ∙ splice_before y head i.bytes q (q + 16) (omega arith) (omega arith) in
      let l : length (head ++ i.bytes) ≡ 16 + length i.bytes = length-append head i.bytes ∙ ap (λ k. k + length i.bytes) lh in
      e₄ ∙ ap (λ o. spliced o (q + 16 + length i.bytes) zeros) both
      ∙ splice_after y (head ++ i.bytes) q (omega arith) zeros (q + 16 + length i.bytes) (omega arith)
      ∙ ap (λ k. spliced y k ((head ++ i.bytes) ++ zeros)) eq
