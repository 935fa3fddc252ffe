-- What a crosscheck calls expired is what validation calls missing.
use Rattle.std.specs.{Prelude.{◌↔◌, IsTrue}, Option.{option_map}}
use Rattle.std.proofs.Common.{◌≡◌, ◌∙◌, ℕ, Bool, true, cond, List, Option, Some, None, is_some, Contains, inl, inr, refl, ap, arith, sym, subst}
use Rattle.std.proofs.lemmas.{Bool.{cases_lt}, Option.{same_Some}}
use Rattle.rm_base.specs.{Store.{Held}, declared.kinds.{Bad.{Bad, TheVariants.{Missing}}, Class.{Class}, Status.{Status}}}
use Rattle.rm_base.specs.declared.kinds.Status.TheVariants.{Available, Unavailable, Expired}
use Rattle.rm_catalog.specs.{Keys.{at, place_of}, Rules.{IsCatalog}, declared.record.Record.{Record, TheVariants.{Log, Piece, Set}}}
use Rattle.rm_catalog.proofs.Numbering.{at-is}
use Rattle.rm_evidence.specs.{Available.{IsBad, IsSkipped, IsSkippedAmong}, Database.{Database, database_in}}
use Rattle.rm_evidence.specs.Names.{log_name, object_id, piece_name, set_name}
use Rattle.rm_evidence.proofs.{Records.{IsBadRecord, bad-by, bad-to, only, skipped-single}, Runs.{apart}}
use Rattle.rm_verify.specs.{Classes.{is_of, object_in}, Crosscheck.{IsChecked, checked, stands_in, status_after}}
use Rattle.rm_verify.specs.declared.object.Expected.{Expected}
use Rattle.rm_verify.proofs.Checked as checks

module _ (rs : List Record) (catalog : IsCatalog rs) where
  -- records at one place are one
  one-place : (r s : Record) → Contains rs r → Contains rs s → place_of r ≡ place_of s → r ≡ s
  one-place r s first second same = same_Some r s (sym (at-is rs r catalog first) ∙ ap (λ (n : ℕ). at n rs) same ∙ at-is rs s catalog second)

  -- an id is that of one record
  one-number : (r s : Record) (id : ℕ) → Contains rs r → Contains rs s → object_id r ≡ Some id → object_id s ≡ Some id → r ≡ s
  one-number r s id first second one two = elim (cases_lt (place_of r) (place_of s)) [
    | inl less ↦ absurd (apart rs catalog r s id id first second less one two refl)
    | inr most ↦ elim (cases_lt (place_of s) (place_of r)) [
      | inl less ↦ absurd (apart rs catalog s r id id second first less two one refl)
      | inr least ↦ one-place r s first second (omega (arith, most, least))
    ]
  ]

module _ (held : Held) (class : Class) where
  -- one that counts as available expires exactly where nothing stands under its name
  expires : (s : Status) (stands : Option (List ℕ)) → s ≡ Available → (status_after s (is_some stands) ≡ Expired) ↔ (stands ≡ None)
  expires Available None same = (λ is. refl, λ is. refl)
  expires Available (Some bytes) same = (λ is. absurd cc, λ is. absurd cc)
  expires Unavailable stands same = absurd cc
  expires Expired stands same = absurd cc

  -- and what stands is missing exactly there
  missing : (Is : List ℕ → Type 0) (stands : Option (List ℕ)) → IsBad Is stands Missing ↔ (stands ≡ None)
  missing Is None = (λ is. refl, λ is. tt)
  missing Is (Some bytes) = (λ is. absurd is, λ is. absurd cc)

  of-object : (Is : List ℕ → Type 0) (id : ℕ) (status : Status) (name : List ℕ) → status ≡ Available → ((id ≡ id) × (status ≡ Available) × IsBad Is (held name) Missing) ↔ (held name ≡ None)
  of-object Is id status name counts = (λ b. (missing Is (held name)).0 b.2, λ none. (refl, counts, (missing Is (held name)).1 none))

  -- of a record that counts as available
  is-missing : (base : Database) (r : Record) (x : Expected) → object_in r ≡ Some x → x.status ≡ Available → IsBadRecord held base r x.id Missing ↔ (held x.name ≡ None)
  is-missing base (Log l) x is status =
      subst (λ (y : Expected). IsBadRecord held base (Log l) y.id Missing ↔ (held y.name ≡ None)) (same_Some _ x is) (of-object _ l.id l.status (log_name l.id) (ap (λ (y : Expected). y.status) (same_Some _ x is) ∙ status))
  is-missing base (Piece p) x is status =
      subst (λ (y : Expected). IsBadRecord held base (Piece p) y.id Missing ↔ (held y.name ≡ None)) (same_Some _ x is) (of-object _ p.id p.status (piece_name p.copy p.id) (ap (λ (y : Expected). y.status) (same_Some _ x is) ∙ status))
  is-missing base (Set e) x is status =
      subst (λ (y : Expected). IsBadRecord held base (Set e) y.id Missing ↔ (held y.name ≡ None)) (same_Some _ x is) (of-object _ e.id e.status (set_name e.id) (ap (λ (y : Expected). y.status) (same_Some _ x is) ∙ status))
  is-missing base _ x is status = absurd cc

  -- what is said of a record of the class
  said : (r : Record) (x : Expected) → is_of class r ≡ true → object_in r ≡ Some x → checked (stands_in held) class r ≡ Some (checks.judged (stands_in held) x)
  said r x of is =
      ap (λ (b : Bool). cond b (option_map (checks.judged (stands_in held)) (object_in r)) None) of
      ∙ ap (λ (o : Option Expected). option_map (checks.judged (stands_in held)) o) is

  pub expired-missing : (rs : List Record) (r : Record) (x : Expected) → IsCatalog rs → Contains rs r → IsTrue (is_of class r) → object_in r ≡ Some x → x.status ≡ Available → IsChecked (stands_in held) rs class x.id Expired ↔ IsSkipped held rs x.id Missing
  expired-missing rs r x catalog has of is status = (to, from)
    where
      base : Database
      base = database_in rs

      number : object_id r ≡ Some x.id
      number = checks.numbered r x is

      to : IsChecked (stands_in held) rs class x.id Expired → IsSkipped held rs x.id Missing
      to (s, there, told) =
          let same : s ≡ r = one-number rs catalog s r x.id there has (checks.is-numbered (stands_in held) class s x.id Expired told) number in
          let both : Some (checks.judged (stands_in held) x) ≡ Some (x.id, Expired) = sym (said r x of is) ∙ ap (checked (stands_in held) class) (sym same) ∙ told in
          let after : status_after x.status (stands_in held x.name) ≡ Expired = ap (λ (y : ℕ × Status). y.1) (same_Some _ _ both) in
          bad-to held base rs r x.id Missing has ((is-missing base r x is status).1 ((expires x.status (held x.name) status).0 after))

      from : IsSkipped held rs x.id Missing → IsChecked (stands_in held) rs class x.id Expired
      from skipped =
          let o = (skipped-single held base).one rs x.id Missing skipped in
          let same : o.0 ≡ r = one-number rs catalog o.0 r x.id o.1 has ((skipped-single held base).number o.0 x.id Missing o.2) number in
          let here : IsBadRecord held base r x.id Missing = subst (λ (s : Record). IsBadRecord held base s x.id Missing) same (only Bad (λ rs. IsSkippedAmong held base rs) (IsBadRecord held base) (bad-by held base) (bad-to held base) o.0 x.id Missing o.2) in
          let after : status_after x.status (stands_in held x.name) ≡ Expired = (expires x.status (held x.name) status).1 ((is-missing base r x is status).0 here) in
          (r, has, said r x of is ∙ ap (λ (s : Status). Some (x.id, s)) after)
