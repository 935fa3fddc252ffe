-- What is catalogued is recorded, and what is handed out is what the statement comes to.
use Rattle.std.specs.Option.{option_map_or}
use Rattle.std.proofs.Common.{◌≡◌, ◌≤◌, ◌<◌, ◌+◌, ◌∙◌, [], ◌∷◌, inl, inr, ℕ, List, Bool, true, false, cond, arith, Option, Some, None, refl, ap, sym, subst}
use Rattle.std.proofs.lemmas.Bool.{le-ltb}
use Rattle.rm_base.specs.{Store.{Held}, declared.refusal.{Limit.TheVariants.{ObjectIds}, Refusal.{Refusal, TheVariants.{Rm11, Rm13}}}}
use Rattle.rm_base.proofs.Conditions.{unless}
use Rattle.rm_lang_statement.specs.declared.command.Command.TheVariants.{CatalogName}
use Rattle.rm_machine.specs.CatalogName.{Found, IsFound, IsNamed, an_id, catalog_by, catalog_refusal, catalogued, catalogues, cataloguing, found_log, found_piece, id_of as id_found, ids_up_to, lacks_ids_behind, name_of, no_id}
use Rattle.rm_machine.specs.{Effect.{Outcome, refused}, Hands.{Hands, Refuses}, Marks.{lacks_bytes, lacks_ids, lacks_room}, Sound.{IsSound}}
use Rattle.rm_machine.specs.{Upkeep.{is_unknown, with_catalog}, State.{ledger}, declared.{handed.Handed.{Handed}, state.State.{State}}}
use Rattle.rm_machine.proofs.{Cataloguing.{FitsFound, found-fits, sound-catalogued}, Handing.{hands-by}, Switching.{not-above}}
use Rattle.rm_report.specs.declared.line.Line.TheVariants.{Catalogued}
use Rattle.rm_step_upkeep.specs.Catalogued.{CanBeRecorded, Finds, IsFoundAs, IsOf, entry_of, id_in, id_of, recorded, refusal_by, room_refusal, size_of}
use Rattle.rm_step_upkeep.{specs.declared.{finding.Entry.{Entry}, naming.Named.{Named}}, proofs.Read.{of-named}}

-- the name of what is found tells its id
named-by : (name : List ℕ) (x : Found) → name ≡ name_of x → (1 ≤ id_found x) × (id_found x < 4294967295) → IsNamed name (id_found x)
named-by name (found_log id a) is number = record { number = number; is = inl is }
named-by name (found_piece false id a) is number = record { number = number; is = inr (inl is) }
named-by name (found_piece true id a) is number = record { number = number; is = inr (inr is) }

found-name : (s : State) (h : Held) (name : List ℕ) (x : Found) → IsFound s h name x → IsNamed name (id_found x)
found-name s h name x found = named-by name x found.is found.number

-- Where nothing is found

pub absent-refused : (held : Option Held) (s : State) (name : List ℕ) (n : Named) (r : Refusal) → IsOf name n → Finds held s name None
    → refused r ≡ catalog_by s name (id_in n) None → Refuses held s (CatalogName name) r
absent-refused held s name n r of none is = λ objects tells.
    record { id = id_in n; tells = an_id (id_in n) (of-named name n of); found = None; finds = none objects tells; is = is }

-- nor under a name that tells no id
pub unnamed-refused : (held : Option Held) (s : State) (name : List ℕ) (r : Refusal) → ((id : ℕ) → ¬ IsNamed name id) → refused r ≡ catalog_by s name 0 None
    → Refuses held s (CatalogName name) r
unnamed-refused held s name r none is = λ objects tells.
    record { id = 0; tells = no_id none; found = None; finds = λ x found. none (id_found x) (found-name s objects name x found); is = is }

-- Its record tells why it is refused, and what becomes of the catalog

same-refusal : (s : State) (name : List ℕ) (x : Found) → refusal_by s name (entry_of s x) ≡ catalog_refusal s name x
same-refusal s name (found_log id a) = refl
same-refusal s name (found_piece copy id a) = refl

same-catalog : (s : State) (x : Found) → recorded s (entry_of s x) ≡ catalogued s x
same-catalog s (found_log id a) = refl
same-catalog s (found_piece copy id a) = refl

same-id : (s : State) (x : Found) → id_of (entry_of s x) ≡ id_found x
same-id s (found_log id a) = refl
same-id s (found_piece copy id a) = refl

can-be : (s : State) (x : Found) → FitsFound s x → CanBeRecorded s (entry_of s x)
can-be s (found_log id a) fits = record { base = fits.base; there = fits.there; end = fits.end.1; fits = fits.entry }
can-be s (found_piece copy id a) fits = record { base = fits.base; there = fits.there; end = fits.end.1; fits = fits.entry }

module _ (held : Option Held) (s : State) (name : List ℕ) (e : Entry) (found : IsFoundAs held s name e) where
  abbrev x : Found
  x = found.found

  refusal-is : refusal_by s name e ≡ catalog_refusal s name x
  refusal-is = ap (refusal_by s name) found.is ∙ same-refusal s name x

  abbrev comes_by : Option Refusal → Outcome
  comes_by o = option_map_or refused o (catalogues s x)

  pub found-refused : (r : Refusal) → refusal_by s name e ≡ Some r → Refuses held s (CatalogName name) r
  found-refused r is = λ objects tells.
      let at = found.stands objects tells in
      let tells = an_id (id_found x) (found-name s objects name x at) in
      record { id = id_found x; tells = tells; found = Some x; finds = at; is = sym (ap comes_by (sym refusal-is ∙ is)) }

  module _ (accepted : refusal_by s name e ≡ None) (sound : IsSound s) (unsaved : s.catalog.saved ≡ None) where
    found-fit : FitsFound s x
    found-fit = found-fits s found.seen name x sound unsaved found.there (sym refusal-is ∙ accepted)

    pub can-be-recorded : CanBeRecorded s e
    can-be-recorded = subst (CanBeRecorded s) (sym found.is) (can-be s x found-fit)

    after-is : recorded s e ≡ catalogued s x
    after-is = ap (recorded s) found.is ∙ same-catalog s x

    pub recorded-sound : IsSound (with_catalog s (recorded s e))
    recorded-sound = subst (λ r. IsSound (with_catalog s r)) (sym after-is) (sound-catalogued s x sound found-fit)

    pub found-hands : (h : Handed) (t : State) → h.lines ≡ Catalogued (id_of e) ∷ [] → h.objects ≡ [] → h.removes ≡ [] → t ≡ with_catalog s (recorded s e)
        → Hands held s (CatalogName name) h t
    found-hands h t lines objects removes is =
        hands-by held s (CatalogName name) h t (Catalogued (id_found x) ∷ []) (cataloguing x) (with_catalog s (catalogued s x))
        (λ store tells.
        let at = found.stands store tells in
        let tells = an_id (id_found x) (found-name s store name x at) in
        record { id = id_found x; tells = tells; found = Some x; finds = at; is = sym (ap comes_by (sym refusal-is ∙ accepted)) })
        (lines ∙ ap (λ n. Catalogued n ∷ []) (ap id_of found.is ∙ same-id s x)) objects removes (is ∙ ap (with_catalog s) after-is)

-- what is recorded had the ids of a save left
pub asked-ids : (s : State) (name : List ℕ) (e : Entry) → refusal_by s name e ≡ None → lacks_ids s 0 ≡ false
asked-ids s name e accepted = decide (is_unknown s.catalog (id_of e)) accepted
  where
    decide : (b : Bool) → cond b (room_refusal s (size_of e) (id_of e)) (cond (lacks_ids_behind s (id_of e)) (Some (Rm11 ObjectIds)) (Some (Rm13 name))) ≡ None → lacks_ids s 0 ≡ false
    decide true none =
        let records = unless (lacks_room s 1) _ _ none in
        let bytes = unless (lacks_bytes s (size_of e)) _ _ records.1 in
        let ids = unless (lacks_ids_behind s (id_of e)) _ _ bytes.1 in
        let most = not-above 4294967295 ((ledger s).base.next_id + ids_up_to s (id_of e) + 68) ids.0 in
        le-ltb 4294967295 ((ledger s).base.next_id + 0 + 68) (omega (arith, most))
    decide false none = absurd (let clash = (unless (lacks_ids_behind s (id_of e)) _ _ none).1 in cc)
