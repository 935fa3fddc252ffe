-- What is known of a duplicate that was made, when it is recovered.
use Rattle.std.specs.{Prelude.{nat_lt}, Option.{option_map}}
use Rattle.std.proofs.Common.{◌≡◌, ◌≤◌, ◌∙◌, ℕ, false, List, [], ◌∷◌, Option, Some, None, length, map, refl, ap, sym, subst, rules, arith}
use Rattle.std.proofs.lemmas.List.{length-map}
use Rattle.rm_apply.{specs.Recover.{outside}, proofs.Numbers.{few-targets}}
use Rattle.rm_base.specs.Store.{Both, Held}
use Rattle.rm_catalog.specs.{Edits.{after_edits}, Rules.{HasDatabase, IsCatalog}, Trees.{nodes}, declared.record.Edit.TheVariants.{Put}}
use Rattle.rm_catalog.{specs.declared.record.Record.{Record}, proofs.Recorded.{recorded}}
use Rattle.rm_catalog_typed.{specs.TypedCatalog.{records_of}, proofs.{Records.{database-told, tree-told}, Valid.{typed_catalog-valid}}}
use Rattle.rm_commit.specs.Carrying.{AreMoved, Carried}
use Rattle.rm_dup.specs.{Entries.{HoldsCopies}, declared.database.Duplicate.{Duplicate}}
use Rattle.rm_history.specs.{Tree.{IsThere}, declared.tree.Incarnation.{Incarnation}}
use Rattle.rm_lang_words.specs.Duplicate.{DuplicateSaid}
use Rattle.rm_lang_statement.specs.declared.command.Until.TheVariants.{Scn}
use Rattle.rm_machine.specs.{RecoverTest.{test_refusal}, State.{world}, Until.{or_else}, declared.state.State.{State}}
use Rattle.rm_tool_duplicate.specs.{Asked.{Sides, target_inc}, Duplicated.{IsMade, commit_of}}
use Rattle.rm_tool_duplicate.{specs.Refused.{HasRecords, files_at, name_refusal, number_refusal}, proofs.Reasons.{number-none}}
use Rattle.rm_tool_duplicate.proofs.Standing.{holds-copies}
use Rattle.rm_step_recover.proofs.Targets.{target-inside, target-there}

-- the first of two reasons is none where there is none
first-none : {X : Type 0} (o p : Option X) → None ≡ or_else o p → o ≡ None
first-none None p is = refl
first-none (Some r) p is = absurd (cc)

-- without records there are none
no-records : (rs : List Record) → false ≡ nat_lt 0 (length rs) → rs ≡ []
no-records [] is = refl
no-records (r ∷ rs) is = absurd (search rules)

told-before : {A : Type 0} (R : A → A → Type 0) (o : Option A) (y : A) → Both R o (Some y) → (x : A) × R x y
told-before R None y both = absurd (cc)
told-before R (Some x) y both = (x, both)

module _ (x : DuplicateSaid) (a : Sides) (s : State) (d : Duplicate) (made : IsMade x a s d) where
  abbrev i : ℕ
  i = target_inc x s

  none-by : number_refusal x s made.accepted.has_records ≡ None
  none-by = first-none (number_refusal x s made.accepted.has_records) (name_refusal made.accepted.is_taken (files_at (world s) i x.until)) made.accepted.is

  by-both : (made.accepted.has_records ≡ false) × (test_refusal s (Some (Scn x.until)) x.incarnation ≡ None)
  by-both = number-none x s made.accepted.has_records none-by

  pub catalog : IsCatalog (records_of s.catalog)
  catalog = typed_catalog-valid s.catalog made.sound.catalog

  pub database : HasDatabase (records_of s.catalog)
  database = database-told s.catalog

  pub there : IsThere (nodes (records_of s.catalog)) i
  there = subst (λ (ns : List Incarnation). IsThere ns i) (sym (tree-told s.catalog)) (target-there s x.until x.incarnation by-both.1)

  pub inside : outside (nodes (records_of s.catalog)) i x.until ≡ None
  inside = ap (λ (ns : List Incarnation). outside ns i x.until) (tree-told s.catalog) ∙ target-inside s x.until x.incarnation by-both.1

  few : length made.is.recovered.files ≤ 64
  few = let ns = few-targets (records_of s.catalog) i x.until (map (λ x. x.file) made.is.recovered.files) catalog made.is.tells.files.numbers in omega (arith, ns, length-map made.is.recovered.files (λ x. x.file))

  module _ (b : Sides) (carried : Carried (commit_of d) a.to a.target b.to b.target) where
    -- the copies stand in its store
    pub stands : (to : Held) → b.to ≡ Some to → HoldsCopies to d.pieces
    stands to is =
        let moved = told-before (AreMoved (commit_of d)) a.to to (subst (λ o. Both (AreMoved (commit_of d)) a.to o) is carried.objects) in
        holds-copies x.dbid x.until d made.is.recovered.files moved.0 to made.is.pieces few moved.1

    -- and its records under its number
    pub recorded-as : (rs : List Record) → b.target ≡ Some rs → rs ≡ d.records
    recorded-as rs is = by-target-records a.target refl
      where
        by-target-records : (o : Option (List Record)) → a.target ≡ o → rs ≡ d.records
        by-target-records None none = let clash : Some rs ≡ None = sym is ∙ carried.records ∙ ap (option_map (after_edits (map Put d.records))) none in absurd (cc)
        by-target-records (Some ks) some =
            let has : HasRecords (Some ks) made.accepted.has_records = subst (λ o. HasRecords o made.accepted.has_records) some made.accepted.records in
            let empty : ks ≡ [] = no-records ks (sym by-both.0 ∙ has) in
            let one : Some rs ≡ Some (after_edits (map Put d.records) ks) = sym is ∙ carried.records ∙ ap (option_map (after_edits (map Put d.records))) some in
            let same : rs ≡ after_edits (map Put d.records) ks = cc in
            same ∙ ap (after_edits (map Put d.records)) empty ∙ recorded d.records made.records
