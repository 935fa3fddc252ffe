-- The expired records of a class are listed by their ids.
use Rattle.std.specs.Option.{option_and_then}
use Rattle.std.proofs.Common.{◌≡◌, ◌<◌, ◌∙◌, ◌++◌, ℕ, List, [], ◌∷◌, Option, Some, None, cond, refl, ap, sym, subst, arith, length, map, AllPairs, Contains}
use Rattle.std.proofs.lemmas.{List.{get_or-map, length-map}, Option.{same_Some}}
use Rattle.rm_base.specs.{Store.{Held}, declared.kinds.{Class.{Class}, Status.{Status, TheVariants.{Available, Expired, Unavailable}}}}
use Rattle.rm_base.proofs.{Lists.{map_from, map_to, only-in}, Members.{in-front}}
use Rattle.rm_apply.specs.Files.{AreExactly}
use Rattle.rm_catalog.specs.declared.record.Record.{Record}
use Rattle.rm_evidence.{specs.{Gathered.{Lists}, Names.{object_id}}, proofs.Single.{IsOfOne}}
use Rattle.rm_report.specs.declared.line.Line.TheVariants.{Deleted, DeletedCount}
use Rattle.rm_catalog_typed.{specs.{Facts.{IsTypedCatalog}, TypedCatalog.{TypedCatalog, records_of}}, proofs.Ids.{row-id, IsId}}
use Rattle.rm_lang_statement.specs.declared.command.Command.TheVariants.{DeleteExpired}
use Rattle.rm_verify.specs.{Classes.{is_of, object_in}, Told.{Tells}, declared.object.Expected.{Expected}}
use Rattle.rm_verify.proofs.Checked.{numbered, passed}
use Rattle.rm_machine.specs.{Effect.{no_effect}, Hands.{Hands}, Sound.{IsSound}, Upkeep.{IsExpired, with_catalog, without_all}}
use Rattle.rm_machine.{specs.declared.{handed.Handed.{Handed}, state.State.{State}}, proofs.Handing.{hands-by}}
use Rattle.rm_step_upkeep.specs.Expired.{Alone, expired, when_expired}

-- an id is told of what is expired alone
of_expired : (n : ℕ) (st : Status) (y : ℕ × Alone) → when_expired n st ≡ Some y → (st ≡ Expired) × (n ≡ y.0)
of_expired n Available y is = absurd cc
of_expired n Unavailable y is = absurd cc
of_expired n Expired y is = (refl, ap (λ (z : ℕ × Alone). z.0) (same_Some _ y is))

-- what is told of something is told of what is there
told_of : {X Y : Type 0} (f : X → Option Y) (o : Option X) (y : Y) → option_and_then f o ≡ Some y → (x : X) × (o ≡ Some x) × (f x ≡ Some y)
told_of f None y is = absurd cc
told_of f (Some x) y is = (x, refl, is)

-- the same record, among others
moved : (rs qs : List Record) (class : Class) (n : ℕ) (e : IsExpired rs class n) → Contains qs e.row → IsExpired qs class n
moved rs qs class n e has = record { row = e.row; there = has; of = e.of; object = e.object; is = e.is; status = e.status; id = e.id }

-- its id is that of the record
has_number : (rs : List Record) (class : Class) (n : ℕ) (e : IsExpired rs class n) → object_id e.row ≡ Some n
has_number rs class n e = numbered e.row e.object e.is ∙ ap Some e.id

module _ (class : Class) where
  from : (r : Record) (y : ℕ × Alone) → expired class r ≡ Some y → IsExpired (r ∷ []) class y.0
  from r y is =
      let of = passed (is_of class r) (option_and_then (λ x. when_expired x.id x.status) (object_in r)) y is in
      let x = told_of (λ (o : Expected). when_expired o.id o.status) (object_in r) y of.1 in
      let e = of_expired x.0.id x.0.status y x.2 in
      record { row = r; there = in-front r []; of = of.0; object = x.0; is = x.1; status = e.0; id = e.1 }

  to : (r : Record) (y : ℕ × Alone) → IsExpired (r ∷ []) class y.0 → expired class r ≡ Some y
  to r y e =
      ap (expired class) (only-in r e.row e.there) ∙ ap (λ b. cond b (option_and_then (λ x. when_expired x.id x.status) (object_in e.row)) None) e.of
      ∙ ap (λ (o : Option Expected). option_and_then (λ x. when_expired x.id x.status) o) e.is ∙ ap (when_expired e.object.id) e.status ∙ ap (λ (n : ℕ). let z : ℕ × Alone = (n, y.1) in Some z) e.id

  pub tells : (r : Record) (found : Option (ℕ × Alone)) → found ≡ expired class r → Tells (λ id (a : Alone). IsExpired (r ∷ []) class id) found
  tells r found same = λ id a. (λ is. from r (id, a) (sym same ∙ is), λ e. same ∙ to r (id, a) e)

  pub is-of-one : IsOfOne Alone (λ rs id a. IsExpired rs class id)
  is-of-one = record {
    one = λ rs id a e. (e.row, e.there, moved rs (e.row ∷ []) class id e (in-front e.row []));
    all = λ rs r id a has e. moved (r ∷ []) rs class id e (subst (Contains rs) (only-in r e.row e.there) has);
    number = λ r id a e. ap object_id (only-in r e.row e.there) ∙ has_number (r ∷ []) class id e;
  }

-- ids ascend alone as beside others
ids-ascend : (xs : List (ℕ × Alone)) → AllPairs (λ x y. x.0 < y.0) xs → AllPairs (λ m n. m < n) (map (λ x. x.0) xs)
ids-ascend xs up i j d less inside =
    let e : ℕ × Alone = (d, tt) in
    let within : j < length xs = omega (arith, inside, length-map xs (λ (x : ℕ × Alone). x.0)) in
    omega (arith, up i j e less within, get_or-map (λ (x : ℕ × Alone). x.0) xs i e d (omega (arith, less, within)), get_or-map (λ (x : ℕ × Alone). x.0) xs j e d within)

-- the ids of the list are exactly those of the expired records
pub exactly : (rs : List Record) (class : Class) (list : List (ℕ × Alone)) → Lists Alone [] (λ id _. IsExpired rs class id) list → AreExactly (IsExpired rs class) (map (λ x. x.0) list)
exactly rs class list lists =
    let up = subst (λ (ys : List (ℕ × Alone)). AllPairs (λ x y. x.0 < y.0) ys) (sym lists.list) lists.ascends in
    record {
      ascends = ids-ascend list up;
      exact = λ n. (
        λ has. let y = map_from (λ (x : ℕ × Alone). x.0) list n has in
            subst (IsExpired rs class) y.is ((lists.exact y.item.0 y.item.1).0 (subst (λ (ys : List (ℕ × Alone)). Contains ys y.item) lists.list y.held)),
        λ is. map_to (λ (x : ℕ × Alone). x.0) list (n, tt) (subst (λ (ys : List (ℕ × Alone)). Contains ys (n, tt)) (sym lists.list) ((lists.exact n tt).1 is)),
      );
    }

-- so the id can be one
pub expired-id : (r : TypedCatalog) (class : Class) (n : ℕ) → IsTypedCatalog r → IsExpired (records_of r) class n → IsId n
expired-id r class n rules e = row-id r e.row n rules (has_number (records_of r) class n e) e.there

module _ (s : State) (sound : IsSound s) (class : Class) (rs : List Record) (all : rs ≡ records_of s.catalog) (ids : List ℕ) (are : AreExactly (IsExpired rs class) ids) where
  exact : AreExactly (IsExpired (records_of s.catalog) class) ids
  exact = subst (λ (k : List Record). AreExactly (IsExpired k class) ids) all are

  pub in-range : (n : ℕ) → Contains ids n → IsId n
  in-range n has = expired-id s.catalog class n sound.catalog ((exact.exact n).0 has)

  pub expired-hands : (held : Option Held) (x : Handed) (t : State) → x.lines ≡ map Deleted ids ++ DeletedCount (length ids) ∷ [] → x.objects ≡ [] → x.removes ≡ []
      → t ≡ with_catalog s (without_all ids s.catalog) → Hands held s (DeleteExpired class) x t
  expired-hands held x t lines objects removes is =
      hands-by held s (DeleteExpired class) x t (map Deleted ids ++ DeletedCount (length ids) ∷ []) no_effect (with_catalog s (without_all ids s.catalog))
      (λ objects tells. record { ids = ids; exact = exact; is = refl }) lines objects removes is
