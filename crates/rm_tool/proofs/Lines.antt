-- What was written of a line that is written part by part.
use Rattle.std.specs.{Borrow.{Bor}, Fmt.{decimal}, Prelude.{fold, get_or}}
use Rattle.std.proofs.Common.{◌≡◌, ◌<◌, Result, Ok, Err, OnErr, OnOk, ◌+◌, ◌∙◌, ◌++◌, ◌∷◌, [], ℕ, List, Option, sym, subst, arith, take, drop, length, ap, append-nil, codes}
use Rattle.std.proofs.{Math.Seq.{take-append-add}, lemmas.List.Sums.{fold-append}}
use Rattle.std.proofs.lemmas.List.{append_assoc, get_or_default, length-append, take-append-drop, take-append-le}
use Rattle.rm_base.{specs.Outside.{Appends}, proofs.{Lists.{take_more}, Streams.{appends-then}}}
use Rattle.rm_tool_ends.specs.Writing.{WritesFront}
use Rattle.rm_tool.specs.{Drill.{parts_text, summary_text, with_part}, declared.drill.Summary.{Summary}}

-- a front of what follows was written
pub front-after : (a b c : Option (List ℕ)) (xs ys : List ℕ) → Appends a b xs → WritesFront b c ys → WritesFront a c (xs ++ ys)
front-after a b c xs ys before front = (
  length xs + front.0,
  omega (arith, length-append xs ys, front.1),
  subst (Appends a c) (sym (take-append-add xs ys front.0)) (appends-then a b c xs (take front.0 ys) before front.2),
)

-- and more was to follow
pub front-more : (a c : Option (List ℕ)) (xs ys : List ℕ) → WritesFront a c xs → WritesFront a c (xs ++ ys)
front-more a c xs ys front =
    (front.0, omega (arith, length-append xs ys, front.1), subst (Appends a c) (sym (take-append-le front.0 xs ys (omega (arith, front.1)))) front.2)

-- the call behind a part that was written
pub err-after : {A E : Type 0} (a b c : Option (List ℕ)) (r : Result A E) (xs ys : List ℕ) → Appends a b xs → OnErr r (WritesFront b c ys) → OnErr r (WritesFront a c (xs ++ ys))
err-after a b c (Ok x) xs ys before front = tt
err-after a b c (Err e) xs ys before front = front-after a b c xs ys before front

abbrev Part : Type 0
Part = Bor (List ℕ) × ℕ

abbrev parts_behind : List Part → List ℕ
parts_behind [] = []
parts_behind (p ∷ ps) = p.0.now ++ decimal p.1 ++ parts_behind ps

parts-from : (front : List ℕ) (ps : List Part) → fold with_part front ps ≡ front ++ parts_behind ps
parts-from front [] = sym (append-nil front)
parts-from front (p ∷ ps) =
    parts-from (front ++ p.0.now ++ decimal p.1) ps ∙ append_assoc (front ++ p.0.now) (decimal p.1) (parts_behind ps)
    ∙ append_assoc front p.0.now (decimal p.1 ++ parts_behind ps) ∙ ap (λ t. front ++ t) (sym (append_assoc p.0.now (decimal p.1) (parts_behind ps)))

-- the part at a place
abbrev pub part_at : List Part → ℕ → Part → List ℕ
part_at ps i d = (get_or ps i d).0.now ++ decimal (get_or ps i d).1

module _ (ps : List Part) (i : ℕ) (d : Part) (inside : i < length ps) where
  parts-push : parts_text (take (i + 1) ps) ≡ parts_text (take i ps) ++ part_at ps i d
  parts-push =
      ap parts_text (take_more ps i (get_or ps i d) inside (get_or_default ps i d (get_or ps i d) inside)) ∙ fold-append with_part [] (take i ps) (get_or ps i d ∷ [])
      ∙ append_assoc (parts_text (take i ps)) (get_or ps i d).0.now (decimal (get_or ps i d).1)

  parts-split : parts_text ps ≡ (parts_text (take i ps) ++ part_at ps i d) ++ parts_behind (drop (i + 1) ps)
  parts-split =
      ap parts_text (sym (take-append-drop (i + 1) ps)) ∙ fold-append with_part [] (take (i + 1) ps) (drop (i + 1) ps) ∙ parts-from (parts_text (take (i + 1) ps)) (drop (i + 1) ps)
      ∙ ap (λ t. t ++ parts_behind (drop (i + 1) ps)) parts-push

  -- a front of it was written
  pub parts-front : (a b c : Option (List ℕ)) → Appends a b (parts_text (take i ps)) → WritesFront b c (part_at ps i d) → WritesFront a c (parts_text ps)
  parts-front a b c before front =
      let here = front-after a b c (parts_text (take i ps)) (part_at ps i d) before front in
      subst (WritesFront a c) (sym parts-split) (front-more a c (parts_text (take i ps) ++ part_at ps i d) (parts_behind (drop (i + 1) ps)) here)

abbrev pub before_last : Summary → List ℕ
before_last s =
    codes "drill " ++ decimal s.number ++ codes ": " ++ decimal s.statements ++ codes " statements, " ++ decimal s.tally.refused ++ codes " refused, " ++ decimal s.tally.writes ++ codes " writes, next SCN "
    ++ decimal s.next_scn ++ codes ", " ++ decimal s.objects

-- the last text, behind all parts
pub summary-is : (s : Summary) → before_last s ++ codes " objects\n" ≡ summary_text s
unfolding summary_text
summary-is s = sym (append_assoc (before_last s) (codes " objects") (10 ∷ []))

pub ok-after : {A E : Type 0} (a b c : Option (List ℕ)) (r : Result A E) (xs ys : List ℕ) → Appends a b xs → OnOk r (Appends b c ys) → OnOk r (Appends a c (xs ++ ys))
ok-after a b c (Ok x) xs ys before more = appends-then a b c xs ys before more
ok-after a b c (Err e) xs ys before more = tt
