-- A window has a start: each incarnation has a mark, and one of the current incarnation is on its path.
use Rattle.std.specs.{Prelude.{unwrap_or}, Option.{option_map, option_or}}
use Rattle.std.proofs.Common.{◌≡◌, ◌≤◌, ◌<◌, ◌∙◌, ◌⊎◌, inl, inr, ℕ, List, Option, Some, None, Bool, true, refl, ap, sym, subst, arith, find, reverse, Contains, is_some}
use Rattle.std.proofs.lemmas.{Bool.{eq-eqb}, List.Elements.{All-contains}}
use Rattle.std.proofs.lemmas.{List.Sorted.{Contains-permutation, IsPermutation-reverse, IsPermutation-sym}, Option.{same_Some}}
use Rattle.rm_base.{specs.declared.{block.Mark.{Mark}, kinds.Policy.TheVariants.{Window}}, proofs.Lists.{find_cases, find_none}}
use Rattle.rm_history.specs.{Tree.{HasParentsBelow, is_within, reset_of, segment_end}, declared.tree.Incarnation.{Incarnation}}
use Rattle.rm_history.proofs.{Paths.{segment_end-some}, Segments.{is_within_none}}
use Rattle.rm_catalog_typed.{specs.LedgerFacts.{IsMark}, proofs.Trees.{first-begins, parents_below}}
use Rattle.rm_retain.specs.Window.{first_on_path, is_old, is_on_path, last_old, window_start}
use Rattle.rm_machine.specs.{Obsolete.{start_by}, Sound.{IsSound}, State.{current_of, ledger, tree}, declared.state.State.{State}}

-- an incarnation ends no segment of its own path
none-own : (tree : List Incarnation) → HasParentsBelow tree → (i : ℕ) → 0 < i → (o : Option ℕ) → segment_end tree i i ≡ o → segment_end tree i i ≡ None
none-own tree below i some None is = is
none-own tree below i some (Some end) is = absurd (((segment_end-some tree below i i some).0 (ap is_some is)).0 refl)

-- so all of it is on its path
within-own : (tree : List Incarnation) → HasParentsBelow tree → (i s : ℕ) → 0 < i → is_within tree i i s ≡ true
within-own tree below i s some =
    sym (is_within_none tree i i s some (λ ancestor. ancestor.0 refl) (none-own tree below i some (segment_end tree i i) refl)) ∙ eq-eqb i i refl

some-mapped : (o : Option Mark) → ¬ (o ≡ None) → ¬ (option_map (λ m. m.scn) o ≡ None)
some-mapped None some = λ none. some refl
some-mapped (Some m) some = λ none. absurd (cc)

some-or : (a b : Option ℕ) → ¬ (b ≡ None) → option_or a b ≡ Some (unwrap_or (option_or a b) 0)
some-or (Some x) b some = refl
some-or None None some = absurd (some refl)
some-or None (Some y) some = refl

either : (a b : Option ℕ) (n : ℕ) → option_or a b ≡ Some n → (a ≡ Some n) ⊎ (b ≡ Some n)
either None b n is = inr is
either (Some x) b n is = inl is

-- what is found of marks is of one of them
of-mark : (p : Mark → Bool) (xs : List Mark) (n : ℕ) → option_map (λ m. m.scn) (find p xs) ≡ Some n → (m : Mark) × Contains xs m × (m.scn ≡ n)
of-mark p xs n is = elim (find_cases p xs) [
  | inl none ↦ absurd (let both : None ≡ Some n = sym (ap (option_map (λ (m : Mark). m.scn)) none) ∙ is in cc)
  | inr found ↦ (found.item, found.held, same_Some found.item.scn n (sym (ap (option_map (λ (m : Mark). m.scn)) found.is) ∙ is))
]

module _ (s : State) (days : ℕ) (sound : IsSound s) where
  abbrev marks : List Mark
  marks = (ledger s).marks

  abbrev last : Option ℕ
  last = last_old (tree s) (current_of s) days (ledger s).base.moment marks

  abbrev first : Option ℕ
  first = first_on_path (tree s) (current_of s) marks

  -- a mark of the current incarnation is on the path
  some-first : ¬ (first ≡ None)
  some-first =
      let are = sound.catalog.ledger in
      let own = are.marks.some (current_of s) are.current in
      let on = subst (λ i. is_within (tree s) i (current_of s) own.0.scn ≡ true) (sym own.2) (within-own (tree s) (parents_below (tree s) are.incarnations) (current_of s) own.0.scn are.current.0) in
      some-mapped (find (is_on_path (tree s) (current_of s)) marks) (λ none. find_none (is_on_path (tree s) (current_of s)) marks own.0 none own.1 on)

  pub has-start : window_start (tree s) (current_of s) days (ledger s).base.moment marks ≡ Some (start_by s (Window days))
  has-start = some-or last first some-first

  -- where the window starts there is a mark
  of-marks : (n : ℕ) → option_or last first ≡ Some n → (m : Mark) × Contains marks m × (m.scn ≡ n)
  of-marks n is = elim (either last first n is) [
    | inl old ↦
        let found = of-mark (is_old (tree s) (current_of s) days (ledger s).base.moment) (reverse marks) n old in
        (found.0, Contains-permutation (reverse marks) marks found.0 (IsPermutation-sym marks (reverse marks) (IsPermutation-reverse marks)) found.1, found.2)
    | inr young ↦ of-mark (is_on_path (tree s) (current_of s)) marks n young
  ]

  pub starts-within : reset_of (tree s) 1 ≤ start_by s (Window days)
  starts-within =
      let are = sound.catalog.ledger in
      let found = of-marks (start_by s (Window days)) has-start in
      let rule = All-contains (IsMark (tree s) (ledger s).base.moment) marks found.0 are.marks.each found.1 in
      omega (arith, first-begins (tree s) are.incarnations found.0.inc found.0.inc (omega arith) rule.there, rule.scn.0, found.2)
