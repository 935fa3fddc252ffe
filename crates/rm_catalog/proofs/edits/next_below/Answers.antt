use Rattle.std.proofs.Common.{◌≡◌, ◌∙◌, ℕ, ◌<◌, ◌≤◌, ◌-◌, length, get_or, List, ap, sym, subst, arith, reverse}
use Rattle.std.proofs.lemmas.List.{get_or-reverse, get_or_default}
use Rattle.rm_catalog.specs.{Edits.{place_of_edit}, declared.record.Edit.{Edit}}
use Rattle.rm_catalog.proofs.edits.next_below.Goals as goal

pub returns-then-place-clause-above : goal.returns-then-place-clause-above
returns-then-place-clause-above c k d lt =
    let xs = c.args.edits.now.items in
    let e = c.in_ok-last.field-0.now in
    let value : c.deref.result.now ≡ xs = c.deref.ensures.value in
    let some : 0 < length xs = subst (λ (l : List Edit). 0 < length l) value c.in_ok-last.ensures.item.3.0 in
    let last : e ≡ get_or xs (length xs - 1) e = subst (λ (l : List Edit). e ≡ get_or l (length l - 1) e) value c.in_ok-last.ensures.item.1 in
    let first : get_or (reverse xs) 0 d ≡ get_or xs (length xs - 1 - 0) d = get_or-reverse xs 0 d some in
    let same : get_or xs (length xs - 1) d ≡ get_or xs (length xs - 1) e = get_or_default xs (length xs - 1) d e (omega arith) in
    let at_last : length xs - 1 - 0 ≡ length xs - 1 = omega arith in
    let found : place_of_edit (get_or (reverse xs) 0 d) ≡ place_of_edit e = ap place_of_edit (first ∙ ap (λ (n : ℕ). get_or xs n d) at_last ∙ same ∙ sym last) in
    let up : place_of_edit (get_or (reverse xs) 0 d) ≤ place_of_edit (get_or (reverse xs) k d) = c.requires 0 k d (omega arith) lt in
    let here = c.place.ensures.is in
    let over = c.if-place.true in
    omega arith
