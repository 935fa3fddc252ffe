-- Records go, and their objects: no record that is left names what goes. So DELETE BACKUP leads on.
use Rattle.std.specs.{List.{flat_map}, Str.{bytes_eq}}
use Rattle.std.proofs.Common.{◌≡◌, ◌≢◌, ◌<◌, ◌^◌, ◌∙◌, ◌++◌, ◌==◌, ◌||◌, nat_lt, inl, inr, ℕ, List, [], ◌∷◌, None, true, refl, ap, sym, subst, arith, filter, map, Contains}
use Rattle.std.proofs.lemmas.{Bool.{cases_Bool, eqb-true, ltb-true}, List.Elements.{Contains-append_cases}}
use Rattle.rm_base.{specs.{Store.{Held}, declared.block.Change.{Change}}, proofs.Lists.{filter_from, map_from}}
use Rattle.rm_base.proofs.{Members.{behind, first-or-rest, in-front, none-in}, Both.{same-name}}
use Rattle.rm_catalog.specs.declared.record.{LogEntry.{LogEntry}, PieceEntry.{PieceEntry}, SetEntry.{SetEntry}}
use Rattle.rm_commit.{specs.Names.{HasRemoves, is_named, itself, nothing}, proofs.Named.{unnamed-stays}}
use Rattle.rm_catalog_typed.specs.{Ledger.{Ledger}, Changes.{higher, lower, without_one}, Facts.{IsTypedCatalog}}
use Rattle.rm_catalog_typed.{specs.TypedCatalog.{TypedCatalog}, proofs.Lookups.{log-id-within, piece-id-within, set-id-within}}
use Rattle.rm_catalog_typed.proofs.Deleting.{stays-one}
use Rattle.rm_evidence.specs.Names.{log_name, piece_name, roll_name, set_name, site_name}
use Rattle.rm_evidence.proofs.Names.{log-name-tells, log-no-piece, log-no-roll, log-no-set, log-no-site, piece-name-tells, piece-no-roll, piece-no-set, piece-no-site, set-name-tells, set-no-roll, set-no-site}
use Rattle.rm_report.specs.declared.line.Line.{Line}
use Rattle.rm_lang_statement.specs.declared.command.Command.TheVariants.{DeleteBackup}
use Rattle.rm_machine.specs.{Effect.{Effect, LeavesObjects, Made, done}, Machine.{IsBorneOut}}
use Rattle.rm_machine.specs.{Names.{IsObjectName, of_log, of_piece, of_set}, Sound.{IsSound}}
use Rattle.rm_machine.specs.{Upkeep.{names_at, removing, with_catalog, without_all, without_record}, declared.state.State.{State}}
use Rattle.rm_machine.proofs.{Kept.{StandOn, stand-where}, Later.{borne-beside}, Upkeep.{all-on}}
use Rattle.rm_machine_laws.proofs.{Leading.{LeadsOnBy, StaysBy}, Quiet.{removing-on, removing-stays}}

-- one of these names
pub named-in : (names : List (List ℕ)) (name : List ℕ) → is_named itself names name ≡ true → Contains names name
named-in [] name is = absurd (cc)
named-in (m ∷ ms) name is = elim (cases_Bool (bytes_eq name m)) [
  | inl same ↦ subst (λ k. Contains (k ∷ ms) name) (same-name name m same) (in-front name ms)
  | inr other ↦ behind m ms name (named-in ms name (sym (ap (λ b. b || is_named itself ms name) other) ∙ is))
]

-- what records name that no such name is of stays
pub stand-without : (names : List (List ℕ)) (before after : Held) (touched : List (List ℕ)) (l : Ledger) → HasRemoves names before after → ((name : List ℕ) → IsObjectName l name → ¬ Contains names name)
    → StandOn before after touched touched l l
stand-without names before after touched l removes free name bytes was is (inl given) = inl given
stand-without names before after touched l removes free name bytes was is (inr held) = elim (cases_Bool (is_named itself names name)) [
  | inl named ↦ absurd (free name is (named-in names name named))
  | inr other ↦ inr (removes name ∙ unnamed-stays itself nothing names name (before name) other ∙ held)
]

module _ {A : Type 0} (id : A → ℕ) (n : ℕ) (xs : List A) (x : A) where
  -- what is left was there, and has another id
  pub left-one : Contains (without_one id n xs) x → Contains xs x × (id x ≢ n)
  left-one has = elim (Contains-append_cases (lower id n xs) (higher id n xs) x has) [
    | inl below ↦
        let was = filter_from (λ y. nat_lt (id y) n) xs x below in
        (was.0, λ same. absurd (omega (arith, ltb-true (id x) n was.1, same)))
    | inr above ↦
        let was = filter_from (λ y. nat_lt n (id y)) xs x above in
        (was.0, λ same. absurd (omega (arith, ltb-true n (id x) was.1, same)))
  ]

not-among : (n : ℕ) (ns : List ℕ) (id : ℕ) → id ≢ n → ¬ Contains ns id → ¬ Contains (n ∷ ns) id
not-among n ns id other rest held = elim (first-or-rest n ns id held) [
  | inl same ↦ other (sym same)
  | inr later ↦ rest later
]

-- the records that are left were there, and have none of the ids
pub left-log : (ids : List ℕ) (r : TypedCatalog) (e : LogEntry) → Contains (without_all ids r).ledger.logs e → Contains r.ledger.logs e × ¬ Contains ids e.id
left-log [] r e has = (has, none-in e.id)
left-log (n ∷ ns) r e has =
    let later = left-log ns (without_record n r) e has in
    let one = left-one (λ (x : LogEntry). x.id) n r.ledger.logs e later.0 in
    (one.0, not-among n ns e.id one.1 later.1)

pub left-piece : (ids : List ℕ) (r : TypedCatalog) (p : PieceEntry) → Contains (without_all ids r).ledger.pieces p → Contains r.ledger.pieces p × ¬ Contains ids p.id
left-piece [] r p has = (has, none-in p.id)
left-piece (n ∷ ns) r p has =
    let later = left-piece ns (without_record n r) p has in
    let one = left-one (λ (x : PieceEntry). x.id) n r.ledger.pieces p later.0 in
    (one.0, not-among n ns p.id one.1 later.1)

pub left-set : (ids : List ℕ) (r : TypedCatalog) (e : SetEntry) → Contains (without_all ids r).ledger.sets e → Contains r.ledger.sets e × ¬ Contains ids e.id
left-set [] r e has = (has, none-in e.id)
left-set (n ∷ ns) r e has =
    let later = left-set ns (without_record n r) e has in
    let one = left-one (λ (x : SetEntry). x.id) n r.ledger.sets e later.0 in
    (one.0, not-among n ns e.id one.1 later.1)

-- and those that have none of them are left
pub stays-log : (ids : List ℕ) (r : TypedCatalog) (e : LogEntry) → Contains r.ledger.logs e → ¬ Contains ids e.id → Contains (without_all ids r).ledger.logs e
stays-log [] r e has other = has
stays-log (n ∷ ns) r e has other =
    stays-log ns (without_record n r) e (stays-one (λ (x : LogEntry). x.id) n r.ledger.logs e has (λ same. other (subst (Contains (n ∷ ns)) (sym same) (in-front n ns)))) (λ held. other (behind n ns e.id held))

pub stays-piece : (ids : List ℕ) (r : TypedCatalog) (p : PieceEntry) → Contains r.ledger.pieces p → ¬ Contains ids p.id → Contains (without_all ids r).ledger.pieces p
stays-piece [] r p has other = has
stays-piece (n ∷ ns) r p has other =
    stays-piece ns (without_record n r) p (stays-one (λ (x : PieceEntry). x.id) n r.ledger.pieces p has (λ same. other (subst (Contains (n ∷ ns)) (sym same) (in-front n ns)))) (λ held. other (behind n ns p.id held))

pub stays-set : (ids : List ℕ) (r : TypedCatalog) (e : SetEntry) → Contains r.ledger.sets e → ¬ Contains ids e.id → Contains (without_all ids r).ledger.sets e
stays-set [] r e has other = has
stays-set (n ∷ ns) r e has other =
    stays-set ns (without_record n r) e (stays-one (λ (x : SetEntry). x.id) n r.ledger.sets e has (λ same. other (subst (Contains (n ∷ ns)) (sym same) (in-front n ns)))) (λ held. other (behind n ns e.id held))

-- the name is that of the log, of the piece or of the set of one of these ids
pub data IsGone (r : TypedCatalog) (ids : List ℕ) : List ℕ → Type 0 where
  a_log : (e : LogEntry) → Contains ids e.id → Contains r.ledger.logs e → IsGone r ids (log_name e.id)
  a_piece : (p : PieceEntry) → Contains ids p.id → Contains r.ledger.pieces p → IsGone r ids (piece_name p.copy p.id)
  a_set : (e : SetEntry) → Contains ids e.id → Contains r.ledger.sets e → IsGone r ids (set_name e.id)

-- and so is each of these names
abbrev pub AreGone : TypedCatalog → List ℕ → List (List ℕ) → Type 0
AreGone r ids names = (name : List ℕ) → Contains names name → IsGone r ids name

-- those of one kind
gone-of : {A : Type 0} (id : A → ℕ) (name : A → List ℕ) (r : TypedCatalog) (ids : List ℕ) (n : ℕ) (xs : List A) → ((x : A) → Contains xs x → id x ≡ n → IsGone r ids (name x)) → AreGone r ids (map name (filter (λ x. id x == n) xs))
gone-of {A} id name r ids n xs each names has =
    let found = map_from name (filter (λ x. id x == n) xs) names has in
    let was = filter_from (λ (x : A). id x == n) xs found.item found.held in
    subst (IsGone r ids) found.is (each found.item was.0 (eqb-true (id found.item) n was.1))

pub gone : (r : TypedCatalog) (ids : List ℕ) (n : ℕ) → Contains ids n → AreGone r ids (names_at n r)
gone r ids n among name has =
    let logs = map (λ (e : LogEntry). log_name e.id) (filter (λ e. e.id == n) r.ledger.logs) in
    let pieces = map (λ (p : PieceEntry). piece_name p.copy p.id) (filter (λ p. p.id == n) r.ledger.pieces) in
    let sets = map (λ (e : SetEntry). set_name e.id) (filter (λ e. e.id == n) r.ledger.sets) in
    elim (Contains-append_cases (logs ++ pieces) sets name has) [
      | inr of ↦ gone-of (λ (e : SetEntry). e.id) (λ (e : SetEntry). set_name e.id) r ids n r.ledger.sets (λ e there is. a_set e (subst (Contains ids) (sym is) among) there) name of
      | inl first ↦ elim (Contains-append_cases logs pieces name first) [
        | inl of ↦ gone-of (λ (e : LogEntry). e.id) (λ (e : LogEntry). log_name e.id) r ids n r.ledger.logs (λ e there is. a_log e (subst (Contains ids) (sym is) among) there) name of
        | inr of ↦ gone-of (λ (p : PieceEntry). p.id) (λ (p : PieceEntry). piece_name p.copy p.id) r ids n r.ledger.pieces (λ p there is. a_piece p (subst (Contains ids) (sym is) among) there) name of
      ]
    ]

-- the names of the records of these ids
pub all-gone : (r : TypedCatalog) (ids ns : List ℕ) → ((n : ℕ) → Contains ns n → Contains ids n) → AreGone r ids (flat_map (λ n. names_at n r) ns)
all-gone r ids [] among name has = absurd (none-in name has)
all-gone r ids (n ∷ ns) among name has = elim (Contains-append_cases (names_at n r) (flat_map (λ m. names_at m r) ns) name has) [
  | inl here ↦ gone r ids n (among n (in-front n ns)) name here
  | inr rest ↦ all-gone r ids ns (λ m held. among m (behind n ns m held)) name rest
]

module _ (r : TypedCatalog) (rules : IsTypedCatalog r) where
  small-log : (e : LogEntry) → Contains r.ledger.logs e → e.id < 2 ^ 64
  small-log e has = omega (arith, (log-id-within r.ledger e rules.ledger has).1, rules.ledger.base.next_id.1)

  small-piece : (p : PieceEntry) → Contains r.ledger.pieces p → p.id < 2 ^ 64
  small-piece p has = omega (arith, (piece-id-within r.ledger p rules.ledger has).1, rules.ledger.base.next_id.1)

  small-set : (e : SetEntry) → Contains r.ledger.sets e → e.id < 2 ^ 64
  small-set e has = omega (arith, (set-id-within r.ledger e rules.ledger has).1, rules.ledger.base.next_id.1)

  module _ (ids : List ℕ) where
    -- a record of another id has no such name
    log-free : (e : LogEntry) → Contains r.ledger.logs e → ¬ Contains ids e.id → (name : List ℕ) → IsGone r ids name → log_name e.id ≢ name
    log-free e has other _ (a_log f among there) same = other (subst (Contains ids) (sym (log-name-tells e.id f.id (small-log e has) (small-log f there) same)) among)
    log-free e has other _ (a_piece p among there) same = log-no-piece e.id p.copy p.id same
    log-free e has other _ (a_set f among there) same = log-no-set e.id f.id same

    piece-free : (p : PieceEntry) → Contains r.ledger.pieces p → ¬ Contains ids p.id → (name : List ℕ) → IsGone r ids name → piece_name p.copy p.id ≢ name
    piece-free p has other _ (a_log e among there) same = log-no-piece e.id p.copy p.id (sym same)
    piece-free p has other _ (a_piece q among there) same = other (subst (Contains ids) (sym (piece-name-tells p.copy q.copy p.id q.id (small-piece p has) (small-piece q there) same).1) among)
    piece-free p has other _ (a_set e among there) same = piece-no-set p.copy p.id e.id same

    set-free : (e : SetEntry) → Contains r.ledger.sets e → ¬ Contains ids e.id → (name : List ℕ) → IsGone r ids name → set_name e.id ≢ name
    set-free e has other _ (a_log f among there) same = log-no-set f.id e.id (sym same)
    set-free e has other _ (a_piece p among there) same = piece-no-set p.copy p.id e.id (sym same)
    set-free e has other _ (a_set f among there) same = other (subst (Contains ids) (sym (set-name-tells e.id f.id (small-set e has) (small-set f there) same)) among)

    site-free : (id : ℕ) (name : List ℕ) → IsGone r ids name → site_name id ≢ name
    site-free id _ (a_log e among there) same = log-no-site e.id id (sym same)
    site-free id _ (a_piece p among there) same = piece-no-site p.copy p.id id (sym same)
    site-free id _ (a_set e among there) same = set-no-site e.id id (sym same)

    roll-free : (id : ℕ) (name : List ℕ) → IsGone r ids name → roll_name id ≢ name
    roll-free id _ (a_log e among there) same = log-no-roll e.id id (sym same)
    roll-free id _ (a_piece p among there) same = piece-no-roll p.copy p.id id (sym same)
    roll-free id _ (a_set e among there) same = set-no-roll e.id id (sym same)

    module _ (names : List (List ℕ)) (are : AreGone r ids names) where
      -- no record that is left names what goes
      pub left-free : (name : List ℕ) → IsObjectName (without_all ids r).ledger name → ¬ Contains names name
      left-free _ (of_log e has) goes = let left = left-log ids r e has in log-free e left.0 left.1 (log_name e.id) (are (log_name e.id) goes) refl
      left-free _ (of_piece p has) goes = let left = left-piece ids r p has in piece-free p left.0 left.1 (piece_name p.copy p.id) (are (piece_name p.copy p.id) goes) refl
      left-free _ (of_set e has) goes = let left = left-set ids r e has in set-free e left.0 left.1 (set_name e.id) (are (set_name e.id) goes) refl

      -- nor a part of a saved site
      pub part-free : (id : ℕ) → ¬ Contains names (site_name id)
      part-free id goes = site-free id (site_name id) (are (site_name id) goes) refl

      -- and it is the name of no increment
      pub increment-free : (id : ℕ) → ¬ Contains names (roll_name id)
      increment-free id goes = roll-free id (roll_name id) (are (roll_name id) goes) refl

      -- so what they name stays
      pub object-stays : (objects after : Held) → LeavesObjects (removing names) objects after → (name : List ℕ) → IsObjectName (without_all ids r).ledger name → after name ≡ objects name
      object-stays objects after effect name is = elim (cases_Bool (is_named itself names name)) [
        | inl named ↦ absurd (left-free name is (named-in names name named))
        | inr other ↦ effect.removes name ∙ unnamed-stays itself nothing names name (effect.put name) other ∙ effect.puts name
      ]

-- what stands after records went, and their objects
pub gone-on : (s : State) (ids : List ℕ) (names : List (List ℕ)) (h : List Change) (objects : Held) (made : List Made) (touched : List (List ℕ)) (lines said : List Line) (e : Effect) (t : State) (after : Held)
    → AreGone s.catalog ids names → IsBorneOut s h objects made touched → done said e t ≡ done lines (removing names) (with_catalog s (without_all ids s.catalog)) → LeavesObjects e objects after
    → IsBorneOut t (h ++ e.changes) after (made ++ e.made) touched
gone-on s ids names h objects made touched lines said e t after are borne is effect =
    let q : State = with_catalog s (without_all ids s.catalog) in
    removing-on q names h objects made touched lines said e t after is effect (λ left.
    borne-beside q h objects after made touched touched ((all-on ids s borne.state).borne h objects made touched borne)
    (stand-where objects after touched q.catalog.ledger q.catalog.ledger (object-stays s.catalog borne.state.catalog ids names are objects after left)))

-- and it is sound
pub gone-stays : (s : State) (ids : List ℕ) (names : List (List ℕ)) (lines said : List Line) (e : Effect) (t : State) → IsSound s → s.catalog.saved ≡ None
    → done said e t ≡ done lines (removing names) (with_catalog s (without_all ids s.catalog)) → IsSound t × (t.catalog.saved ≡ None)
gone-stays s ids names lines said e t sound unsaved is =
    let on = all-on ids s sound in
    removing-stays (with_catalog s (without_all ids s.catalog)) names lines said e t is (on.sound sound) (on.saved unsaved)

-- DELETE BACKUP

pub delete-on : (n : ℕ) → LeadsOnBy (DeleteBackup n)
delete-on n s h objects made touched said e t after well borne tell none does effect =
    gone-on s (n ∷ []) (names_at n s.catalog) h objects made touched _ said e t after (gone s.catalog (n ∷ []) n (in-front n [])) borne does effect

pub delete-stays : (n : ℕ) → StaysBy (DeleteBackup n)
delete-stays n s objects said e t well sound unsaved none does = gone-stays s (n ∷ []) (names_at n s.catalog) _ said e t sound unsaved does
