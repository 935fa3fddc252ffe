-- RECOVER COPY under way: some copies are renewed, and the rest lead on from there.
use Rattle.std.specs.Prelude.{IfSome}
use Rattle.std.proofs.Common.{◌≡◌, ◌≤◌, ◌<◌, ◌+◌, ◌∙◌, ◌++◌, ℕ, suc, List, ◌∷◌, Option, None, Some, refl, ap, sym, subst, arith, append_assoc, drop-cons, drop, get_or, length, All}
use Rattle.std.proofs.lemmas.List.Elements.{All-contains, All-head, All-tail}
use Rattle.rm_backup.specs.declared.renewing.Renewed.{Renewed}
use Rattle.rm_catalog.specs.declared.record.Edit.{Edit}
use Rattle.rm_commit.specs.declared.commit.Object.{Object}
use Rattle.rm_piece.specs.{Valid.{IsPiece}, declared.piece.Piece.{Piece}}
use Rattle.rm_report.specs.declared.line.Line.{Line}
use Rattle.rm_catalog_typed.{specs.{Changes.{EditsFollow}, Fitting.{HasId}}, proofs.{Changed.{follows-then}, Lookups.{piece-id-within}}}
use Rattle.rm_machine.specs.RecoverCopy.{after_copies, after_copy, changed, copies_gone, copies_lines, copies_put, renewed_lines, renewed_name, renewed_object, renewed_refusal}
use Rattle.rm_machine.specs.{Sound.{IsSound}, State.{ledger}, declared.{handed.Handed.{Handed}, state.State.{State}}}
use Rattle.rm_machine.proofs.Renewing.{CanRenewAll, CanRenewTo, drawn, first-can, first-room, fits as renew-fits, ids-left, rest-can, sound-to}
use Rattle.rm_base.proofs.Standing.{each-in}
use Rattle.rm_step_copies.specs.Fit.{AreFit, CanPut, CanRecord, IsFit}

-- those from place k on
rest-at : (xs : List (ℕ × Renewed)) (k : ℕ) (one : ℕ × Renewed) → k < length xs → one ≡ get_or xs k one → drop k xs ≡ one ∷ drop (k + 1) xs
rest-at xs k one inside is =
    let e : suc k ≡ k + 1 = omega arith in
    drop-cons xs k one inside ∙ ap (λ n. get_or xs k one ∷ drop n xs) e ∙ ap (λ (x : ℕ × Renewed). x ∷ drop (k + 1) xs) (sym is)

-- what changed is valid
abbrev pub IsValidTo : ℕ × Renewed → Type 0
IsValidTo x = IfSome x.1.merged IsPiece

-- from the state s on, all of these copies but the rest are renewed: the state is t
pub record IsUnderWay (s : State) (tag : List ℕ) (xs rest : List (ℕ × Renewed)) (before after : List Edit) (first now : Handed) (t : State) : Type 0 where
  pub sound : IsSound t
  pub can : CanRenewAll t tag rest
  pub valid : All IsValidTo rest
  pub state : after_copies t tag rest ≡ after_copies s tag xs
  pub edits : EditsFollow before after s.catalog t.catalog
  pub lines : now.lines ++ copies_lines t tag rest ≡ first.lines ++ copies_lines s tag xs
  pub objects : now.objects ++ copies_put t tag rest ≡ first.objects ++ copies_put s tag xs
  pub removes : now.removes ++ copies_gone rest ≡ first.removes ++ copies_gone xs

-- a copy that fits can be renewed
can-to : (s : State) (tag : List ℕ) (n : ℕ) (o : Option Piece) → HasId (λ p. p.id) n (ledger s).pieces → IfSome o (CanRecord s tag) → CanRenewTo s tag n o
can-to s tag n None there can = tt
can-to s tag n (Some last) there can = record { entry = can.entry; old = there.0; recorded = there.1; id = there.2 }

valid-to : (s : State) (tag : List ℕ) (o : Option Piece) → IfSome o (CanRecord s tag) → IfSome o IsPiece
valid-to s tag None can = tt
valid-to s tag (Some last) can = can.valid

-- none is renewed at first
pub way-start : (s : State) (tag : List ℕ) (xs : List (ℕ × Renewed)) (edits : List Edit) (x : Handed) → IsSound s → AreFit s tag xs → renewed_refusal s xs ≡ None → IsUnderWay s tag xs xs edits edits x x s
way-start s tag xs edits x sound fit accepted = record {
  sound = sound;
  can = record {
    each = each-in (λ (y : ℕ × Renewed). CanRenewTo s tag y.1.id y.1.merged) xs (λ y has. let is = All-contains (IsFit s tag) xs y fit.each has in can-to s tag y.1.id y.1.merged is.there is.changed);
    apart = fit.apart;
    room = ids-left s xs accepted;
  };
  valid = each-in IsValidTo xs (λ y has. valid-to s tag y.1.merged (All-contains (IsFit s tag) xs y fit.each has).changed);
  state = refl;
  edits = record { lead = λ rs from. from };
  lines = refl;
  objects = refl;
  removes = refl;
}

put-to : (s : State) (tag : List ℕ) (n : ℕ) (o : Option Piece) → IsSound s → CanRenewTo s tag n o → IfSome o IsPiece → (ledger s).base.next_id + drawn o ≤ 4294967295 → IfSome o (CanPut s tag n)
put-to s tag n None sound can valid room = tt
put-to s tag n (Some last) sound can valid room =
    let low = (piece-id-within (ledger s) can.old sound.catalog.ledger can.recorded).0 in
    record { some = omega (arith, low, can.id); valid = valid; fits = renew-fits s tag n last sound can (omega (arith, room)) }

-- the one at place k is the next
module _ (s t : State) (tag : List ℕ) (xs : List (ℕ × Renewed)) (k : ℕ) (one : ℕ × Renewed) (inside : k < length xs) (is_one : one ≡ get_or xs k one) (before mid : List Edit) (first x : Handed) (way : IsUnderWay s tag xs (drop k xs) before mid first x t) where
  abbrev rest : List (ℕ × Renewed)
  rest = drop (k + 1) xs

  here : IsUnderWay s tag xs (one ∷ rest) before mid first x t
  here = subst (λ (ys : List (ℕ × Renewed)). IsUnderWay s tag xs ys before mid first x t) (rest-at xs k one inside is_one) way

  can : CanRenewTo t tag one.1.id one.1.merged
  can = first-can t tag one rest here.can

  -- it can be put
  pub next-put : IfSome one.1.merged (CanPut t tag one.1.id)
  next-put = put-to t tag one.1.id one.1.merged here.sound can (All-head IsValidTo one rest here.valid) (first-room t tag one rest here.can)

  -- one copy on
  pub way-on : (q : State) (after : List Edit) (y : Handed) → q ≡ after_copy t tag one → EditsFollow mid after t.catalog q.catalog → y.lines ≡ x.lines ++ renewed_lines t one → y.objects ≡ x.objects ++ renewed_object t one → y.removes ≡ x.removes ++ renewed_name one
      → IsUnderWay s tag xs rest before after first y q
  way-on q after y is follow lines objects removes =
      let p : State = after_copy t tag one in
      coe 1 0 (i. IsUnderWay s tag xs rest before after first y (is i)) (record {
        sound = sound-to t tag one.1.id one.1.merged here.sound can (first-room t tag one rest here.can);
        can = rest-can t tag one rest here.can;
        valid = All-tail IsValidTo one rest here.valid;
        state = here.state;
        edits = follows-then before mid after s.catalog t.catalog p.catalog here.edits (coe 0 1 (i. EditsFollow mid after t.catalog (is i).catalog) follow);
        lines = ap (λ (ls : List Line). ls ++ copies_lines p tag rest) lines ∙ append_assoc x.lines (renewed_lines t one) (copies_lines p tag rest) ∙ here.lines;
        objects = ap (λ (os : List Object). os ++ copies_put p tag rest) objects ∙ append_assoc x.objects (renewed_object t one) (copies_put p tag rest) ∙ here.objects;
        removes = ap (λ (ns : List (List ℕ)). ns ++ copies_gone rest) removes ∙ append_assoc x.removes (renewed_name one) (copies_gone rest) ∙ here.removes;
      })
