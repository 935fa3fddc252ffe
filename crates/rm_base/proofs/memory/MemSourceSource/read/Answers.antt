use Rattle.std.specs.List.{slice_range}
use Rattle.std.proofs.Common.{◌≡◌, ◌≤◌, ◌+◌, ◌-◌, ◌++◌, ◌∙◌, ℕ, List, Some, ap, sym, subst, take, drop, length, arith}
use Rattle.rm_base.proofs.Streams.{front-taken}
use Rattle.rm_base.proofs.memory.MemSourceSource.read.Goals as goal

pub returns-then-not-is_empty-clause-front : goal.returns-then-not-is_empty-clause-front
returns-then-not-is_empty-clause-front c =
    let xs : List ℕ = c.args.self.now.bytes.items in
    let at : ℕ = c.args.self.now.at in
    let n : ℕ = c.min-n.result in
    let rest : List ℕ = drop n c.args.buf.now in
    let span : (at + n) - at ≡ n = omega arith in
    let moved : c.copy_from_slice.new.self ≡ take n (drop at xs) =
    c.copy_from_slice.ensures.after ∙ ap (λ ys. slice_range ys at (at + n)) c.deref.ensures.value ∙ ap (λ k. take k (drop at xs)) span in
    let bound : n ≤ length xs - at = omega (arith, c.min-n.ensures, c.min.ensures, c.len.ensures) in
    ap Some (subst (λ (ys : List ℕ). drop at xs ≡ take n (ys ++ rest) ++ drop (at + n) xs) (sym moved) (front-taken xs rest at n bound))
