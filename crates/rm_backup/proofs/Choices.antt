-- The choice among the records, where one record more is looked at.
use Rattle.std.specs.{List.{cons_option}, Option.{option_map}}
use Rattle.std.proofs.Common.{◌≡◌, ◌∙◌, inl, inr, ℕ, List, Option, Some, None, [], ◌∷◌, ◌++◌, refl, ap, sym, subst, ◌+◌, ◌<◌, length, get_or, map, take, All, Contains}
use Rattle.std.proofs.lemmas.{Grind.{flat_map-append}, List.{append-nil}}
use Rattle.std.proofs.lemmas.List.Elements.{All-contains, Contains-append_cases, Contains-append_left, Contains-append_right, filter_map-append}
use Rattle.rm_base.{specs.Choice.{ComesFirst, IsLatest}, proofs.{Lists.{map_from, map_to, take_more, only-in}, Members.{in-front, none-in}}}
use Rattle.rm_base.proofs.Choices.{first_itself, first_other_way, first_through}
use Rattle.rm_catalog.specs.{Keys.{backups_in, part_piece, piece_in}, declared.record.{PieceEntry.{PieceEntry}, Record.{Record}}}
use Rattle.rm_catalog.specs.declared.record.{Record.TheVariants.{Piece}, SetEntry.{SetEntry}, SetPart.{SetPart}}
use Rattle.rm_backup.specs.{Looking.{IsFirstOf, TellsFirst}, Parents.{among}, Records.{pieces, told}}

-- a record more that is a backup, and one that is none
pub pieces_more : (xs : List Record) (p : PieceEntry) → pieces (xs ++ Piece p ∷ []) ≡ pieces xs ++ p ∷ []
pieces_more xs p = filter_map-append piece_in xs (Piece p ∷ [])

pub pieces_none : (xs : List Record) (x : Record) → piece_in x ≡ None → pieces (xs ++ x ∷ []) ≡ pieces xs
pieces_none xs x none =
    filter_map-append piece_in xs (x ∷ [])
    ∙ ap (λ (o : Option PieceEntry). pieces xs ++ cons_option o []) none
    ∙ append-nil (pieces xs)

-- a record more, with the backups of which it tells
pub among_more : (tag : Option (List ℕ)) (xs : List Record) (x : Record) → among tag (xs ++ x ∷ []) ≡ among tag xs ++ among tag (x ∷ [])
among_more None xs x = flat_map-append backups_in xs (x ∷ [])
among_more (Some tag) xs x = filter_map-append piece_in xs (x ∷ [])

module _ (P : PieceEntry → Type 0) where
  -- one that comes before each that passes in two lists is the first of both
  chosen : (xs ys : List PieceEntry) (x : PieceEntry) → Contains (xs ++ ys) x → P x → ((y : PieceEntry) → Contains xs y → P y → ComesFirst (told x) (told y)) → ((y : PieceEntry) → Contains ys y → P y → ComesFirst (told x) (told y)) → IsLatest told P (xs ++ ys) (Some x)
  chosen xs ys x held passes left right = record {
    held = held;
    passes = passes;
    first = λ y there also. elim (Contains-append_cases xs ys y there) [
      | inl front ↦ left y front also
      | inr back ↦ right y back also
    ];
  }

  both : (xs ys : List PieceEntry) (o q : Option PieceEntry) (r : Option (ℕ × ℕ)) → IsLatest told P xs o → IsLatest told P ys q → IsFirstOf (option_map told o) (option_map told q) r → TellsFirst P (xs ++ ys) r
  both xs ys None None r first second is = (None, (λ y there passes. elim (Contains-append_cases xs ys y there) [ inl front ↦ first y front passes | inr back ↦ second y back passes ]), is)
  both xs ys (Some p) None r first second is = (Some p, chosen xs ys p (Contains-append_left xs ys p first.held) first.passes first.first (λ y back also. absurd (second y back also)), is)
  both xs ys None (Some q) r first second is = (Some q, chosen xs ys q (Contains-append_right xs ys q second.held) second.passes (λ y front also. absurd (first y front also)) second.first, is)
  both xs ys (Some p) (Some q) r first second (inl stays) =
      (Some p, chosen xs ys p (Contains-append_left xs ys p first.held) first.passes first.first (λ y back also. first_through (told p) (told q) (told y) stays.0 (second.first y back also)), stays.1)
  both xs ys (Some p) (Some q) r first second (inr goes) =
      (Some q, chosen xs ys q (Contains-append_right xs ys q second.held) second.passes (λ y front also. first_through (told q) (told p) (told y) (first_other_way (told p) (told q) goes.0) (first.first y front also)) second.first, goes.1)

  -- the first of two lists
  pub tells_both : (xs ys : List PieceEntry) (a b r : Option (ℕ × ℕ)) → TellsFirst P xs a → TellsFirst P ys b → IsFirstOf a b r → TellsFirst P (xs ++ ys) r
  tells_both xs ys a b r (o, first, is) (q, second, same) of =
      both xs ys o q r first second (subst (λ (c : Option (ℕ × ℕ)). IsFirstOf c (option_map told q) r) is (subst (λ (c : Option (ℕ × ℕ)). IsFirstOf a c r) same of))

  -- of backups that are told alike, one of which passes; and of such that fail
  pub tells_alike : (xs : List PieceEntry) (x : PieceEntry) → Contains xs x → P x → ((y : PieceEntry) → Contains xs y → told y ≡ told x) → TellsFirst P xs (Some (told x))
  tells_alike xs x held passes alike = (Some x, record { held = held; passes = passes; first = λ y there also. subst (λ (t : ℕ × ℕ). ComesFirst (told x) t) (sym (alike y there)) (first_itself (told x)) }, refl)

  pub tells_none : (xs : List PieceEntry) → ((y : PieceEntry) → Contains xs y → ¬ P y) → TellsFirst P xs None
  tells_none xs fail = (None, fail, refl)

  -- of one backup
  pub tells_one : (x : PieceEntry) → P x → TellsFirst P (x ∷ []) (Some (told x))
  tells_one x passes = tells_alike (x ∷ []) x (in-front x []) passes (λ y held. ap told (sym (only-in x y held)))

  -- of the records up to one, and of one more
  pub tells_start : (tag : Option (List ℕ)) → TellsFirst P (among tag []) None
  tells_start None = tells_none [] (λ y held passes. none-in y held)
  tells_start (Some tag) = tells_none [] (λ y held passes. none-in y held)

  pub tells_more : (tag : Option (List ℕ)) (rs : List Record) (i : ℕ) (r : Record) (a b c : Option (ℕ × ℕ)) → i < length rs → r ≡ get_or rs i r
      → TellsFirst P (among tag (take i rs)) a → TellsFirst P (among tag (r ∷ [])) b → IsFirstOf a b c → TellsFirst P (among tag (take (i + 1) rs)) c
  tells_more tag rs i r a b c inside is before here first =
      subst (λ (ps : List PieceEntry). TellsFirst P ps c) (sym (ap (among tag) (take_more rs i r inside is) ∙ among_more tag (take i rs) r))
      (tells_both (among tag (take i rs)) (among tag (r ∷ [])) a b c before here first)

  module _ (e : SetEntry) where
    -- a set of which a part passes, and one of which none does
    pub tells_set : (ps : List SetPart) (p : SetPart) → ps ≡ e.parts → Contains ps p → P (part_piece e p) → TellsFirst P (map (part_piece e) e.parts) (Some (e.id, e.checkpoint))
    tells_set ps p same held passes =
        tells_alike (map (part_piece e) e.parts) (part_piece e p) (map_to (part_piece e) e.parts p (subst (λ (qs : List SetPart). Contains qs p) same held)) passes
        (λ y there. let s = map_from (part_piece e) e.parts y there in ap told (sym s.is))

    pub tells_no_set : (ps : List SetPart) → ps ≡ e.parts → All (λ p. ¬ P (part_piece e p)) ps → TellsFirst P (map (part_piece e) e.parts) None
    tells_no_set ps same fail = tells_none (map (part_piece e) e.parts) (λ y there passes.
        let s = map_from (part_piece e) e.parts y there in
        All-contains (λ (p : SetPart). ¬ P (part_piece e p)) ps s.item fail (subst (λ (qs : List SetPart). Contains qs s.item) (sym same) s.held) (subst P (sym s.is) passes))
