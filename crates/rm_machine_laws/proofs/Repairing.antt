-- BLOCKRECOVER leads on: the damaged blocks that are asked for come to be what the history has, while writers write.
use Rattle.std.specs.{List.{list_any}, Option.{option_and_then, option_map_or}}
use Rattle.std.proofs.Common.{◌≡◌, ◌-◌, ◌∙◌, ◌++◌, ◌==◌, ◌&&◌, ◌⊎◌, not, inl, inr, ℕ, List, [], ◌∷◌, Option, Some, None, Bool, true, false, filter, refl, ap, sym, subst, arith, get_or, length, map, All, Contains, slice_get}
use Rattle.std.proofs.lemmas.{Bool.{and_from, and_parts, cases_Bool}, List.{append-nil, Elements.{All-contains, All-weaker}}}
use Rattle.std.proofs.lemmas.Option.{slice_get-get_or}
use Rattle.rm_base.specs.{Store.{Held}, declared.block.{BlockId.{BlockId}, Change.{Change}, Row.{Row}}}
use Rattle.rm_base.proofs.{Lists.{any_fails, any_from, any_to, filter_from, filter_to, filter_none}, Slots.{all-get}, Standing.{each-in}}
use Rattle.rm_blocks.specs.File.{File}
use Rattle.rm_catalog_typed.{specs.TypedCatalog.{records_of}, proofs.{Valid.{typed_catalog-valid}, Records.{tree-told}}}
use Rattle.rm_channel.specs.Made.{AreThese, deed}
use Rattle.rm_evidence.{specs.{Known.{FitsTree, known_of}, declared.evidence.Evidence.{Evidence}}, proofs.Fitting.{gathered-fits}}
use Rattle.rm_history.specs.{State.{state}, declared.tree.Incarnation.{Incarnation}}
use Rattle.rm_history.specs.Evidence as known
use Rattle.rm_lang_statement.specs.declared.command.{BackupForm.{BackupForm}, Command.TheVariants.{BlockRecover}, NamedBlocks.{NamedBlocks}}
use Rattle.rm_lang_statement.specs.declared.command.{RepairForm.{RepairForm}, WriteForm.{WriteForm}}
use Rattle.rm_report.specs.declared.line.Line.{Line}
use Rattle.rm_live.specs.{History.{IsLegal, after}, Parts.{Parts}, Touched.{is_mended}, declared.history.Event.{Event}}
use Rattle.rm_plan.specs.Blocks.{AreToldRows}
use Rattle.rm_machine.specs.{Asked.{asked}, BlockRecover.{MendsBlocks, MissesBlock, asks_for, blocks_mended, repair_begun, without_mended}}
use Rattle.rm_machine.specs.{Damage.{IsInPlace, has_block}, Effect.{Effect, Made, done, no_effect}}
use Rattle.rm_machine.specs.{Events.{after_events, changes_of, opening}, Machine.{IsBorneOut}, Recovery.{IsAtHand, in_place}}
use Rattle.rm_machine.specs.{Repair.{RepairsSoFar, RepairsTruly}, Sound.{IsSound}, Step.{IsDone}}
use Rattle.rm_machine.specs.{State.{current_of, ledger, now_of, placed, world}, declared.state.State.{State}}
use Rattle.rm_machine.proofs.{BackupMarks.{borne-marked, marked-same}, Damaged.{with_list}, Fitting.{place-fits}, Kept.{stand-same}}
use Rattle.rm_machine.proofs.{Later.{borne-beside}, Mending.{AreDue, CanMend, Patch, can-events}, Places.{placed-is}, Putting.{sound-fewer}}
use Rattle.rm_machine.proofs.{RepairAccepted.{CanRepair, can-repair}, Repaired.{marking}}
use Rattle.rm_machine.proofs.Repairs.{IsOfBlock, block-patched, due-front, due-mended, mended-due, patches, wanted}
use Rattle.rm_machine.proofs.{ToldRows.{CanStand, IsTargetNow, in-place-target, told-stand}, Walk.{CanGoOn, events-same}}
use Rattle.rm_machine.proofs.DamagedLists.{any-fewer, is-block, same-block}
use Rattle.rm_machine.proofs.Repaired as shared
use Rattle.rm_machine_laws.proofs.{Agreeing.{evidence-agrees}, Leading.{LeadsOnBy, StaysBy}}
use Rattle.rm_machine_laws.proofs.{Mended.{Knows, KnowsRows, knows-events, left, left-from, row-events}, Quiet.{landed, same-stays}}

-- a front of legal events is legal
legal-front : (es rest : List Event) (p : Parts) → IsLegal p (es ++ rest) → IsLegal p es
legal-front [] rest p legal = tt
legal-front (e ∷ es) rest p legal = (legal.0, legal-front es rest (after p e.call e.answer) legal.1)

-- where more blocks count as damaged, what is borne out is so as before
borne-listed : (t : State) (xs ys : List BlockId) (h : List Change) (objects : Held) (made : List Made) (touched : List (List ℕ)) → ((x : BlockId) → Contains xs x → Contains ys x) → IsSound (with_list t ys)
    → IsBorneOut (with_list t xs) h objects made touched → IsBorneOut (with_list t ys) h objects made touched
borne-listed t xs ys h objects made touched more sound is =
    let keeps = is.keeps in
    record {
      state = sound;
      keeps = record {
        history = keeps.history;
        below = keeps.below;
        online = keeps.online;
        place = λ f x at none. keeps.place f x at (any-fewer (λ z. z.file == x.file) xs ys (λ z has on. more z has) none);
        tracker = keeps.tracker;
        in_open = λ opened f x at.
            All-weaker (λ (r : Row). has_block xs x.file r.block ≡ false → r ≡ state (world t) h (current_of t) (now_of t) x.file r.block)
            (λ (r : Row). has_block ys x.file r.block ≡ false → r ≡ state (world t) h (current_of t) (now_of t) x.file r.block)
            (λ r was clear. was (any-fewer (λ z. (z.file == x.file) && (z.block == r.block)) xs ys (λ z has on. more z has) clear)) x.rows (keeps.in_open opened f x at);
        point = keeps.point;
      };
      artefacts = is.artefacts;
      records = record { logs = is.records.logs; pieces = is.records.pieces; sets = is.records.sets };
    }

module _ (s : State) (form : RepairForm) (contents : All (λ (w : WriteForm). length w.content.0 ≡ 64) (asked form.during)) (sound : IsSound s) (can : CanRepair s form) (e : known.Evidence) (rows : List Row)
    (told : AreToldRows (world s) e (current_of s) (now_of s) (blocks_mended s form) rows) (stand : All (CanStand s) rows) (scns : List (List ℕ)) (events : List Event) (legal : IsLegal (opening (repair_begun s form)) events)
    (these : AreThese (wanted (blocks_mended s form) rows 4 (asked form.during) scns) (map deed events)) where
  abbrev ws : List WriteForm
  ws = asked form.during

  abbrev xs : List BlockId
  xs = blocks_mended s form

  abbrev ms : List Patch
  ms = patches xs rows

  abbrev b : BackupForm
  b = marking form

  abbrev u : State
  u = repair_begun s form

  abbrev t : State
  t = after_events u events

  goes-on : CanGoOn u ws
  goes-on = shared.goes-on s form contents sound can e rows told stand scns events legal these

  of-block : (m : Patch) → Contains ms m → IsOfBlock (world s) e (current_of s) (now_of s) xs m
  of-block = shared.of-block s form contents sound can e rows told stand scns events legal these

  listed : (x : BlockId) → Contains xs x → Contains s.instance.damaged x × (asks_for form x ≡ true)
  listed = shared.listed s form contents sound can e rows told stand scns events legal these

  can-mend : CanMend u ws ms
  can-mend = shared.can-mend s form contents sound can e rows told stand scns events legal these

  due : AreDue ws ms events
  due = shared.due s form contents sound can e rows told stand scns events legal these

  pub repaired-sound : IsSound (without_mended t form)
  repaired-sound = shared.repaired-sound s form contents sound can e rows told stand scns events legal these

  pub repaired-unsaved : (without_mended t form).catalog.saved ≡ s.catalog.saved
  repaired-unsaved = shared.repaired-unsaved s form contents sound can e rows told stand scns events legal these

  damaged-end : t.instance.damaged ≡ s.instance.damaged
  damaged-end = shared.damaged-end s form contents sound can e rows told stand scns events legal these

  -- exactly the damaged blocks that are asked for are mended
  mends : (f c : ℕ) → is_mended events f c ≡ (has_block s.instance.damaged f c && asks_for form (record { file = f; block = c }))
  mends f c = elim (cases_Bool (is_mended events f c)) [
    | inl is ↦
        let it = mended-due ws ms events f c due is in
        let from = of-block it.0 it.1 in
        let x : BlockId = from.block in
        let file : x.file ≡ f = sym from.file ∙ it.2 in
        let block : x.block ≡ c = sym from.told.block ∙ it.3 in
        let on = listed x from.has in
        is ∙ sym (and_from (has_block s.instance.damaged f c) (asks_for form (record { file = f; block = c }))
        (any_to (λ (y : BlockId). (y.file == f) && (y.block == c)) s.instance.damaged x on.0 (is-block x f c file block))
        (subst (λ (y : BlockId). asks_for form y ≡ true) (λ i. record { file = file i; block = block i }) on.1))
    | inr none ↦ none ∙ sym (elim (cases_Bool (has_block s.instance.damaged f c && asks_for form (record { file = f; block = c }))) [
      | inr out ↦ out
      | inl both ↦
          let parts = and_parts (has_block s.instance.damaged f c) (asks_for form (record { file = f; block = c })) both in
          let x = any_from (λ (y : BlockId). (y.file == f) && (y.block == c)) s.instance.damaged parts.0 in
          let same = same-block x.0 f c x.2 in
          let asks : asks_for form x.0 ≡ true = subst (λ (y : BlockId). asks_for form y ≡ true) (sym same) parts.1 in
          let m = block-patched (world s) e (current_of s) (now_of s) xs rows told x.0 (filter_to (asks_for form) s.instance.damaged x.0 x.1 asks) in
          let mended = due-mended xs rows 4 ws scns events these m.0 m.1 in
          let here : is_mended events f c ≡ true = coe 0 1 (i. is_mended events ((m.2 ∙ ap (λ (y : BlockId). y.file) same) i) ((m.3 ∙ ap (λ (y : BlockId). y.block) same) i) ≡ true) mended in
          absurd (let clash : true ≡ false = sym here ∙ none in cc)
    ])
  ]

  module _ (h : List Change) (objects : Held) (made : List Made) (touched : List (List ℕ)) (stands : IsBorneOut s h objects made touched) (agrees : known.Agrees (world s) h e) where
    abbrev all : BlockId → Bool
    all x = true

    -- what the evidence tells of a row is so
    rows-known : KnowsRows s h ms
    rows-known m has =
        let it = of-block m has in
        let x : BlockId = it.block in
        let was : Row = record { block = x.block; version = m.1.version; content = m.1.content } in
        let same : was ≡ m.1 = λ i. record { block = sym it.told.block i; version = m.1.version; content = m.1.content } in
        let so : state (world s) h (current_of s) (now_of s) x.file x.block ≡ was = it.told.tells.known h stands.keeps.history agrees in
        sym ((λ i. state (world s) h (current_of s) (now_of s) (it.file i) (it.told.block i)) ∙ so ∙ same)

    rows-begun : KnowsRows u h ms
    rows-begun m has = coe 1 0 (i. m.1 ≡ state (marked-same world s b refl i) h (marked-same current_of s b refl i) (marked-same now_of s b refl i) m.0 m.1.block) (rows-known m has)

    knows : Knows u all ms h objects made touched
    knows = record {
      borne = borne-listed u u.instance.damaged (filter all u.instance.damaged) h objects made touched (λ x has. filter_to all u.instance.damaged x has refl) (sound-fewer u all goes-on.sound) (borne-marked s b can.records h objects made touched stands);
      rows = rows-begun;
    }

    module _ (es : List Event) (lawful : IsLegal (opening u) es) (asked_for : AreDue ws ms es) where
      abbrev v : State
      v = after_events u es

      can-here : CanMend v ws ms
      can-here = can-events ws ms es u can-mend lawful asked_for

      pub knows-here : Knows v (left all es) ms (h ++ changes_of u es) objects made touched
      knows-here = knows-events ws ms es u all h objects made touched can-mend knows lawful asked_for

      -- a mended block is what the history of that turn has
      row-mended : (m : Patch) → Contains ms m → is_mended es m.0 m.1.block ≡ true → option_and_then (λ (x : File). slice_get x.rows m.1.block) (placed v m.0) ≡ Some (state (world v) (h ++ changes_of u es) (current_of v) (now_of v) m.0 m.1.block)
      row-mended m has is =
          let place = can-here.patches m has in
          let x : File = place.file in
          let stood = placed-is v (m.0 - 1) x can-here.on.sound.place place.is in
          let number : x.file ≡ m.0 = (let file = stood.file in let some = place.some in omega (arith, file, some)) in
          let r : Row = get_or x.rows m.1.block m.1 in
          let got : slice_get x.rows m.1.block ≡ Some r = slice_get-get_or x.rows m.1.block m.1 place.block in
          let block : r.block ≡ m.1.block = stood.order m.1.block r got in
          let bad = filter (left all es) v.instance.damaged in
          let clear : has_block bad x.file r.block ≡ false = any_fails (λ (y : BlockId). (y.file == x.file) && (y.block == r.block)) bad (λ y on same.
          let one = same-block y x.file r.block same in
          let not_mended = (left-from es all y (filter_from (left all es) v.instance.damaged y on).1).0 in
          let mended : is_mended es y.file y.block ≡ true = coe 1 0 (i. is_mended es ((ap (λ (z : BlockId). z.file) one ∙ number) i) ((ap (λ (z : BlockId). z.block) one ∙ block) i) ≡ true) is in
          absurd (let clash : true ≡ false = sym mended ∙ not_mended in cc)) in
          let states = knows-here.borne.keeps.in_open can-here.on.opened m.0 x place.is in
          let true_row = all-get (λ (y : Row). has_block bad x.file y.block ≡ false → y ≡ state (world v) (h ++ changes_of u es) (current_of v) (now_of v) x.file y.block) x.rows m.1.block r got states clear in
          ap (option_and_then (λ (y : File). slice_get y.rows m.1.block)) place.is ∙ got ∙ ap Some true_row ∙ (λ i. Some (state (world v) (h ++ changes_of u es) (current_of v) (now_of v) (number i) (block i)))

      pub so-far : RepairsSoFar u h es
      so-far = record {
        mended = λ f c is.
            let it = mended-due ws ms es f c asked_for is in
            let here : is_mended es it.0.0 it.0.1.block ≡ true = coe 1 0 (i. is_mended es (it.2 i) (it.3 i) ≡ true) is in
            let now_current : current_of v ≡ current_of u = events-same current_of (λ q w. refl) (λ q g row. refl) es u in
            coe 0 1 (i. option_and_then (λ (x : File). slice_get x.rows (it.3 i)) (placed v (it.2 i)) ≡ Some (state (world v) (h ++ changes_of u es) (now_current i) (now_of v) (it.2 i) (it.3 i))) (row-mended it.0 it.1 here);
        alone = λ f c some none. row-events ws ms es u can-mend lawful asked_for f c some none;
      }

    pub front : (es rest : List Event) → events ≡ es ++ rest → RepairsSoFar u h es
    front es rest is =
        so-far es (legal-front es rest (opening u) (subst (IsLegal (opening u)) is legal)) (due-front ws ms es rest (subst (AreDue ws ms) is due))

    pub repaired-borne : IsBorneOut (without_mended t form) (h ++ changes_of u events) objects made touched
    repaired-borne =
        borne-listed t (filter (left all events) t.instance.damaged) (filter (λ x. not (asks_for form x)) t.instance.damaged) (h ++ changes_of u events) objects made touched
        (λ x has.
        let on = filter_from (left all events) t.instance.damaged x has in
        let out = sym (mends x.file x.block) ∙ (left-from events all x on.1).0 in
        let there = any_to (λ (y : BlockId). (y.file == x.file) && (y.block == x.block)) s.instance.damaged x (subst (λ ys. Contains ys x) damaged-end on.0) (is-block x x.file x.block refl refl) in
        filter_to (λ y. not (asks_for form y)) t.instance.damaged x on.0 (ap not (sym (ap (λ k. k && asks_for form x) there) ∙ out)))
        repaired-sound (knows-here events legal due).borne

    pub repairs-truly : (effect : Effect) (q : State) → effect.changes ≡ changes_of u events → q ≡ without_mended t form → RepairsTruly h s form effect q
    repairs-truly effect q changes is = record { events = events; legal = legal; changes = changes; left = is; mends = mends; front = front }

-- From a statement that was done

-- the rows that are told could stand in place
told-can : (s : State) (held : Held) (form : RepairForm) (e : Evidence) (rows : List Row) → IsSound s → s.instance.is_open ≡ true → IsAtHand s held e → AreToldRows (world s) (known_of e) (current_of s) (now_of s) (blocks_mended s form) rows → All (CanStand s) rows
told-can s held form e rows sound opened at_hand told =
    let fits = subst (λ (ns : List Incarnation). FitsTree ns e) (tree-told s.catalog) (gathered-fits held (records_of s.catalog) (in_place s) e (typed_catalog-valid s.catalog sound.catalog) (place-fits s sound) at_hand) in
    told-stand s e sound fits (blocks_mended s form) rows
    (each-in (IsTargetNow s) (blocks_mended s form) (λ x has.
    in-place-target s x sound opened (All-contains (IsInPlace s) s.instance.damaged x sound.damaged.each (filter_from (asks_for form) s.instance.damaged x has).0))) told

pub repair-on : (form : RepairForm) → LeadsOnBy (BlockRecover form)
repair-on form s h objects made touched said effect q last well stands tell none does leaves = by does.comes
  where
    by : MissesBlock s does.evidence form (done said effect q) ⊎ MendsBlocks s does.evidence form (done said effect q)
        → IsBorneOut q (h ++ effect.changes) last (made ++ effect.made) touched × RepairsTruly h s form effect q
    by (inl misses) = absurd (let clash = misses.is in cc)
    by (inr it) =
        let can = can-repair s form stands.state none in
        let u : State = repair_begun s form in
        let stand = told-can s objects form does.evidence it.rows stands.state can.opened does.at_hand it.told in
        let agrees = evidence-agrees s h objects made touched stands tell does.evidence does.at_hand in
        let t : State = without_mended (after_events u it.events) form in
        let x : Effect = record no_effect { changes = changes_of u it.events } in
        let is = it.is in
        let same : x ≡ effect = cc in
        let to : t ≡ q = cc in (
          landed t x h objects made touched effect q last same to leaves (λ left.
              subst (λ k. IsBorneOut t (h ++ changes_of u it.events) last k touched) (sym (append-nil made))
              (borne-beside t (h ++ changes_of u it.events) objects last made touched touched
              (repaired-borne s form well.1 stands.state can (known_of does.evidence) it.rows it.told stand it.scns it.events it.legal it.these h objects made touched stands agrees)
              (stand-same objects last touched (ledger t) (ledger t) (λ n. left.removes n ∙ left.puts n)))),
          repairs-truly s form well.1 stands.state can (known_of does.evidence) it.rows it.told stand it.scns it.events it.legal it.these h objects made touched stands agrees effect q (ap (λ (y : Effect). y.changes) (sym same)) (sym to),
        )

pub repair-stays : (form : RepairForm) → StaysBy (BlockRecover form)
repair-stays form s objects said effect q well sound unsaved none does = by does.comes
  where
    by : MissesBlock s does.evidence form (done said effect q) ⊎ MendsBlocks s does.evidence form (done said effect q) → IsSound q × (q.catalog.saved ≡ None)
    by (inl misses) = absurd (let clash = misses.is in cc)
    by (inr it) =
        let can = can-repair s form sound none in
        let stand = told-can s objects form does.evidence it.rows sound can.opened does.at_hand it.told in
        let is = it.is in
        same-stays (without_mended (after_events (repair_begun s form) it.events) form) q (cc)
        (repaired-sound s form well.1 sound can (known_of does.evidence) it.rows it.told stand it.scns it.events it.legal it.these)
        (repaired-unsaved s form well.1 sound can (known_of does.evidence) it.rows it.told stand it.scns it.events it.legal it.these ∙ unsaved)

-- what was mended is off the list, and nothing else
pub list-after : (form : RepairForm) (s : State) (objects : Held) (said : List Line) (effect : Effect) (q : State) → IsDone s objects (BlockRecover form) (done said effect q) → q.instance.damaged ≡ filter (λ x. not (asks_for form x)) s.instance.damaged
list-after form s objects said effect q does = by does.comes
  where
    by : MissesBlock s does.evidence form (done said effect q) ⊎ MendsBlocks s does.evidence form (done said effect q) → q.instance.damaged ≡ filter (λ x. not (asks_for form x)) s.instance.damaged
    by (inl misses) = absurd (let clash = misses.is in cc)
    by (inr it) =
        let is = it.is in
        let to : without_mended (after_events (repair_begun s form) it.events) form ≡ q = cc in
        ap (λ (x : State). x.instance.damaged) (sym to)
        ∙ ap (filter (λ x. not (asks_for form x))) (events-same (λ (x : State). x.instance.damaged) (λ x w. refl) (λ x f row. refl) it.events (repair_begun s form) ∙ marked-same (λ (x : State). x.instance.damaged) s (marking form) refl)

pub none-after : (form : RepairForm) (s : State) (objects : Held) (said : List Line) (effect : Effect) (q : State) → form.blocks ≡ None → IsDone s objects (BlockRecover form) (done said effect q) → q.instance.damaged ≡ []
none-after form s objects said effect q all does =
    list-after form s objects said effect q does
    ∙ filter_none (λ x. not (asks_for form x)) s.instance.damaged (each-in (λ x. not (asks_for form x) ≡ false) s.instance.damaged (λ x has. ap (λ (o : Option NamedBlocks). not (option_map_or (λ n. (n.file == x.file) && list_any (λ b. b == x.block) n.blocks) o true)) all))
