use Rattle.std.proofs.Common.{◌≡◌, ◌+◌, ◌-◌, ◌∷◌, ◌++◌, length, get_or, take, drop, sym, ap, ◌∙◌, arith}
use Rattle.std.proofs.lemmas.List.{length-take-le, length-drop}
use Rattle.records.specs.BigEndian.{low}
use Rattle.frames.proofs.Parts.{put_four, room_four}
use Rattle.records.proofs.Widths.{length-low}
use Rattle.frames.proofs.record.write_parts.Goals as goal

pub returns : goal.returns
returns c =
    let d = c.args.data.now in
    let p = c.args.part.now in
    let a = c.args.head_length in
    let n = get_or d a 0 in
    let e = a + 1 + c.from.result in
    let rest = length d - (a + 1 + n) in
    let body = take n (drop (a + 1) d) in
    let zero : a - 0 ≡ a = omega arith in
    let heads : length (take (a - 0) p) ≡ a = length-take-le (a - 0) p (omega arith) ∙ zero in
    let first : c.write_number.new.part ≡ low a c.args.head = c.write_number.ensures ∙ ap (λ l. low l c.args.head) heads in
    let front : length c.write_number.new.part ≡ a = ap length first ∙ length-low a c.args.head in
    let long : e - (a + 1) ≡ n = omega arith in
    let copied : c.copy_from_slice.new.self ≡ body = c.copy_from_slice.ensures.after ∙ ap (λ l. take l (drop (a + 1) d)) long in
    let whole : length body ≡ n = length-take-le n (drop (a + 1) d) (omega (arith, length-drop (a + 1) d)) in
    let bodies : length c.copy_from_slice.new.self ≡ n = ap length copied ∙ whole in
    let ends : e ≡ a + 1 + length c.copy_from_slice.new.self = omega arith in
    let room = room_four p c.write_number.new.part c.copy_from_slice.new.self n a e (a - 0) zero front ends rest (omega arith) in
    let last : c.write_number-2.new.part ≡ low rest c.args.tail = c.write_number-2.ensures ∙ ap (λ l. low l c.args.tail) room in
    put_four p c.write_number.new.part c.copy_from_slice.new.self n a e (a - 0) zero front ends c.write_number-2.new.part (omega arith)
    ∙ ap (λ w. w ++ (n ∷ (c.copy_from_slice.new.self ++ c.write_number-2.new.part))) first
    ∙ ap (λ b. low a c.args.head ++ (n ∷ (b ++ c.write_number-2.new.part))) copied
    ∙ ap (λ w. low a c.args.head ++ (n ∷ (body ++ w))) last
    ∙ ap (λ k. low a c.args.head ++ (k ∷ (body ++ low rest c.args.tail))) (sym whole)
