use Rattle.std.proofs.Common.{rules, ◌≡◌, ◌+◌, ◌∙◌, nat_lt, ℕ, List, true, false, refl, sym, subst, take, take_all}
use Rattle.std.proofs.lemmas.Bool.{false≢true}
use Rattle.rm_piece.specs.declared.piece.Piece.{Piece}
use Rattle.rm_retain.{specs.{Catalogued.{backup_of}, Chosen.{Ascend}}, proofs.Taking.{copies_of, falls, passed, taken, is_behind, AscendTo}}
use Rattle.rm_retain.proofs.needs.do_ascend.Goals.{then-has_record+else-not-is_behind, else-has_record}
use Rattle.rm_retain.proofs.needs.do_ascend.Goals as goal

pub loop-piece-preserved : goal.loop-piece-preserved
loop-piece-preserved c =
    let xs = c.as_slice-bases.result.now in
    let l = c.loop-piece in
    let i = l.piece-index in
    let x = c.piece-item.result in
    elim c.if-has_record.branch [
      | then-has_record+else-not-is_behind w ↦
          let some : nat_lt 0 x.0 ≡ true = search rules in
          let behind : is_behind l.id l.file (backup_of x) ≡ true = search rules in
          subst (λ f. AscendTo c.if-has_record.id f (copies_of (take (i + 1) xs))) (sym w.file-is)
          (subst (λ n. AscendTo n x.1.file (copies_of (take (i + 1) xs))) (sym w.id-is) (taken xs i l.id l.file x c.loop-piece-test.true c.piece-item.is l.invariant some behind))
      | else-has_record w ↦
          let none : nat_lt 0 x.0 ≡ false = search rules in
          subst (λ f. AscendTo c.if-has_record.id f (copies_of (take (i + 1) xs))) (sym w.file-is)
          (subst (λ n. AscendTo n l.file (copies_of (take (i + 1) xs))) (sym w.id-is) (passed xs i l.id l.file x c.loop-piece-test.true c.piece-item.is l.invariant none))
    ]

pub returns-then-not-is_behind : goal.returns-then-not-is_behind
returns-then-not-is_behind c =
    let xs = c.as_slice-bases.result.now in
    let l = c.loop-piece in
    let x = c.piece-item.result in
    let some : nat_lt 0 x.0 ≡ true = search rules in
    let off : is_behind l.id l.file (backup_of x) ≡ false = search rules in (
      (λ never. absurd (false≢true never)),
      (λ ascend. absurd (falls xs l.piece-index l.id l.file x c.loop-piece-test.true c.piece-item.is l.invariant some off
          (subst (λ (ys : List (ℕ × Piece)). Ascend (copies_of ys)) (sym c.as_slice-bases.ensures) ascend))),
    )

pub returns : goal.returns
returns c =
    let xs = c.as_slice-bases.result.now in (
      (λ _. subst (λ (ys : List (ℕ × Piece)). Ascend (copies_of ys)) (take_all c.loop-piece.piece-index xs c.loop-piece-test.false ∙ c.as_slice-bases.ensures) c.loop-piece.invariant.ascend),
      (λ _. refl),
    )
