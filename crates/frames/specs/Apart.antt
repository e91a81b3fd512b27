-- The sense of a frame tells it. Assumes nothing.
use Rattle.std.proofs.Common.{◌≡◌, List, [], ◌∷◌, ◌++◌, length, refl, ap, ◌∙◌, arith}
use Rattle.records.proofs.Whole.{map-pos}
use Rattle.frames.specs.Frames.{Shape, Shapely, Frame, frame, sense}

-- two lists in two parts, the first parts as long
parts : {X : Type 0} (a a' b b' : List X) → length a ≡ length a' → a ++ b ≡ a' ++ b' → (a ≡ a') × (b ≡ b')
parts [] [] b b' l e = (refl, e)
parts [] (x ∷ a') b b' l e = absurd (omega arith)
parts (x ∷ a) [] b b' l e = absurd (omega arith)
parts (x ∷ a) (x' ∷ a') b b' l e =
    let h : x ≡ x' = cc in
    let t : a ++ b ≡ a' ++ b' = cc in
    let r = parts a a' b b' (omega arith) t in
    (ap (λ y. y ∷ a) h ∙ ap (λ ys. x' ∷ ys) r.0, r.1)

pub apart : (s : Shape) → Shapely s → (x y : Frame) → sense s x ≡ sense s y → x ≡ y
apart s ok (frame g h p t) (frame g' h' p' t') e =
    let all = map-pos (g ∷ (s.head_fields h ++ (length p ∷ (p ++ s.tail_fields t)))) (g' ∷ (s.head_fields h' ++ (length p' ∷ (p' ++ s.tail_fields t')))) e in
    let flags : g ≡ g' = cc in
    let rest : s.head_fields h ++ (length p ∷ (p ++ s.tail_fields t)) ≡ s.head_fields h' ++ (length p' ∷ (p' ++ s.tail_fields t')) = cc in
    let one = parts (s.head_fields h) (s.head_fields h') (length p ∷ (p ++ s.tail_fields t)) (length p' ∷ (p' ++ s.tail_fields t')) (ok.head_count h h') rest in
    let head = ok.head_apart h h' one.0 in
    let after = one.1 in
    let as_long : length p ≡ length p' = cc in
    let more : p ++ s.tail_fields t ≡ p' ++ s.tail_fields t' = cc in
    let two = parts p p' (s.tail_fields t) (s.tail_fields t') as_long more in
    let body = two.0 in
    let tail = ok.tail_apart t t' two.1 in
    cc
