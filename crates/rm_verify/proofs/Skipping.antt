-- What is told of objects, one part after the other, and which records are skipped by it.
use Rattle.std.specs.{Prelude.{Ok, Err}, Option.{option_map, option_map_or}}
use Rattle.std.proofs.Common.{◌≡◌, ◌∙◌, ◌+◌, ◌<◌, ◌≤◌, ◌⊎◌, ℕ, inl, inr, List, [], ◌∷◌, ◌++◌, Option, Some, All, drop, get_or, length, map, take, refl, ap, sym, subst, arith}
use Rattle.std.proofs.lemmas.List.{get_or-map, length-drop, length-map, Elements.{All-head, All-tail}}
use Rattle.rm_base.specs.{Store.{Held}, declared.kinds.{Bad.{Bad}, Kind.{Kind, TheVariants.{Level1}}}}
use Rattle.rm_catalog.specs.declared.record.Record.{Record}
use Rattle.rm_evidence.specs.{Available.{IsSkipped}, Database.{database_in, dbid_in}, Gathered.{Lists}, Names.{object_id}}
use Rattle.rm_evidence.specs.{Place.{placed_evidence}, Seen.{IsSeen}}
use Rattle.rm_evidence.specs.Taking.{Adds, AreObjects, HasId, with_piece, with_piece_of, with_pieces}
use Rattle.rm_evidence.specs.{Telling.{AreTold, Tells, stands_in, with_artefact, with_told}, declared.evidence.Evidence.{Evidence}}
use Rattle.rm_evidence.specs.declared.{evidence.InPlace.{InPlace}, telling.Told.{Told, TheVariants.{Nothing, OfLog, OfPiece, OfSet}}}
use Rattle.rm_evidence.proofs.{Ordered.{rows_of, told-all, told-more}, Runs.{adds-start}, Seen.{seen-all, seen-then}}
use Rattle.rm_evidence.proofs.Tells.{adds-seen, first-left}
use Rattle.rm_piece.specs.declared.piece.Piece.{Piece}
use Rattle.rm_verify.specs.Told.{reason, with_bad, with_found}

-- nothing is in place
abbrev nothing : InPlace
nothing = record { files = []; logs = [] }

-- a piece is no record that is skipped
kind-skips : (k : Kind) (e : Evidence) (id : ℕ) (a : Piece) → (with_piece_of k e id a).skipped ≡ e.skipped
kind-skips Level1 e id a = refl
kind-skips _ e id a = refl

pieces-skip : (e : Evidence) (id : ℕ) (pieces : List Piece) → (with_pieces e id pieces).skipped ≡ e.skipped
pieces-skip e id [] = refl
pieces-skip e id (a ∷ rest) = pieces-skip (with_piece e id a) id rest ∙ kind-skips a.kind e id a

-- one that is skipped is one that is bad
abbrev with_one : List (ℕ × Bad) → ℕ → Told → List (ℕ × Bad)
with_one bad id t = with_found bad (option_map (λ (b : Bad). (id, b)) (reason t))

artefact-skips : (e : Evidence) (id : ℕ) (t : Told) → (with_artefact e id t).skipped ≡ with_one e.skipped id t
artefact-skips e id Nothing = refl
artefact-skips e id (OfLog (Ok a)) = refl
artefact-skips e id (OfLog (Err bad)) = refl
artefact-skips e id (OfPiece (Ok a)) = kind-skips a.kind e id a
artefact-skips e id (OfPiece (Err bad)) = refl
artefact-skips e id (OfSet (Ok s)) = pieces-skip e id (map (λ m. m.piece) s.members)
artefact-skips e id (OfSet (Err bad)) = refl

-- where no objects are left, or nothing is told, none is bad
pub ended : {X : Type 0} (f : X → ℕ) (xs : List X) (ts : List Told) (bad : List (ℕ × Bad)) → (xs ≡ []) ⊎ (ts ≡ []) → with_bad bad (map f xs) ts ≡ bad
ended f [] ts bad e = refl
ended f (x ∷ xs) [] bad e = refl
ended f (x ∷ xs) (t ∷ ts) bad (inl e) = absurd cc
ended f (x ∷ xs) (t ∷ ts) bad (inr e) = absurd cc

-- the objects were told but for the rest, and these of them are bad
pub record HasTold {X : Type 0} (see : X → ℕ × Record) (rs : List Record) (items : List X) (o : Option Held) (rest : List X) (bad : List (ℕ × Bad)) : Type 0 where
  pub many : ℕ
  pub within : many ≤ length items
  pub left : drop many items ≡ rest
  pub told : Evidence
  pub adds : IsSeen o (λ h. Adds h (database_in rs) (rows_of (take many (map see items))) (placed_evidence (dbid_in rs) nothing) told)
  pub skips : bad ≡ told.skipped

module _ {X : Type 0} (see : X → ℕ × Record) (rs : List Record) (items : List X) (are : AreObjects rs (map see items)) (o : Option Held) where
  -- none of them was told
  pub told-none : (bad : List (ℕ × Bad)) → bad ≡ [] → HasTold see rs items o items bad
  told-none bad is = record {
    many = 0;
    within = omega arith;
    left = refl;
    told = placed_evidence (dbid_in rs) nothing;
    adds = seen-all o (λ h. adds-start h (database_in rs) (placed_evidence (dbid_in rs) nothing));
    skips = is;
  }

  -- the record has its id
  numbered : (i : ℕ) (x : X) → i < length items → x ≡ get_or items i x → object_id (see x).1 ≡ Some (see x).0
  numbered i x inside is = ((are.exact (see x).0 (see x).1).0 (i, rw (length-map items see) inside, get_or-map see items i x (see x) inside ∙ sym (ap see is))).1

  module _ (p : Option Held) (same : p ≡ o) where
    -- one object more
    told-one : (x : X) (rest : List X) (t : Told) (bad : List (ℕ × Bad)) → HasId (see x).1 → HasTold see rs items o (x ∷ rest) bad → IsSeen p (λ h. Tells (database_in rs) (see x).1 (stands_in h (see x).1) t) → HasTold see rs items o rest (with_one bad (see x).0 t)
    told-one x rest t bad id was here =
        let base = database_in rs in
        let r : Record = (see x).1 in
        let at = first-left items was.many x x rest was.left in
        let inside : was.many < length items = omega (arith, length-drop was.many items, ap length was.left) in
        let e : Evidence = with_told was.told r t in
        record {
          many = was.many + 1;
          within = omega (arith, inside);
          left = at.1;
          told = e;
          adds = told-more see rs items are o was.many p base x (placed_evidence (dbid_in rs) nothing) was.told e same inside (sym at.0) id was.adds (adds-seen p base r t was.told e refl here);
          skips = ap (λ (list : List (ℕ × Bad)). with_one list (see x).0 t) was.skips ∙ sym (artefact-skips was.told (see x).0 t)
              ∙ sym (ap (λ (n : Option ℕ). (option_map_or (λ id. with_artefact was.told id t) n was.told).skipped) (numbered was.many x inside (sym at.0)));
        }

    -- a part more
    pub told-part : (part rest : List X) (ts : List Told) (bad : List (ℕ × Bad)) → All (λ x. HasId (see x).1) part → HasTold see rs items o (part ++ rest) bad → AreTold p (database_in rs) (map (λ x. (see x).1) part) ts
        → HasTold see rs items o rest (with_bad bad (map (λ x. (see x).0) part) ts)
    told-part [] rest [] bad ids was all = was
    told-part [] rest (t ∷ ts) bad ids was all = absurd all
    told-part (x ∷ part) rest [] bad ids was all = absurd all
    told-part (x ∷ part) rest (t ∷ ts) bad ids was all =
        told-part part rest ts (with_one bad (see x).0 t) (All-tail (λ (x : X). HasId (see x).1) x part ids) (told-one x (part ++ rest) t bad (All-head (λ (x : X). HasId (see x).1) x part ids) was all.0) all.1

  -- all of them
  pub told-end : (rest : List X) (bad : List (ℕ × Bad)) → length rest ≡ 0 → HasTold see rs items o rest bad → IsSeen o (λ h. Lists Bad [] (IsSkipped h rs) bad)
  told-end rest bad none was =
      seen-then o (told-all see rs items are o was.many nothing (placed_evidence (dbid_in rs) nothing) was.told was.within (omega (arith, length-drop was.many items, ap length was.left, none)) refl was.adds)
      (λ h gathered. subst (λ (list : List (ℕ × Bad)). Lists Bad [] (IsSkipped h rs) list) (sym was.skips) gathered.skipped)
