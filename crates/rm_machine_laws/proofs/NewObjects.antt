-- Objects that come to stand under names that no record has, and a log that is recorded with its own.
use Rattle.std.specs.Str.{bytes_eq}
use Rattle.std.proofs.Common.{◌≡◌, ◌≢◌, ◌≤◌, ◌∙◌, ◌++◌, ◌⊎◌, inl, inr, ℕ, List, [], ◌∷◌, Some, Bool, cond, refl, ap, sym, subst, arith, Contains}
use Rattle.std.proofs.lemmas.{Bool.{cases_Bool}, List.Elements.{Contains-append_left, Contains-push, Contains-push_cases}}
use Rattle.std.proofs.lemmas.Slice.Eq.{bytes_eq-Decides}
use Rattle.rm_base.specs.{Store.{Held}, declared.block.Change.{Change}}
use Rattle.rm_catalog.specs.declared.record.{LogEntry.{LogEntry}, PieceEntry.{PieceEntry}, SetEntry.{SetEntry}}
use Rattle.rm_commit.specs.{Names.{HasPuts, after_all as all_after, bytes_of, name_of}, declared.commit.Object.{Object}}
use Rattle.rm_catalog_typed.specs.{LedgerFacts.{IsLedger}, Ledger.{Ledger}, Worlds.{database_of}}
use Rattle.rm_catalog_typed.proofs.Lookups.{log-id-within, piece-id-within, set-id-within}
use Rattle.rm_evidence.specs.{Names.{log_name, piece_name, set_name}, Objects.{HasDigest, HasLogFields}}
use Rattle.rm_evidence.proofs.Names.{log-name-tells, log-no-piece, log-no-set, piece-name-tells, piece-no-set, set-name-tells}
use Rattle.rm_redo.specs.{LogFormat.{spelling}, declared.log_file.LogFile.{LogFile}}
use Rattle.rm_machine.specs.Effect.{Made, a_log}
use Rattle.rm_machine.specs.Machine.{HasLogArtefact, HasPieceArtefact, HasSetArtefact, HaveArtefacts, HistoryFits, IsBorneOut, IsTrueArtefact}
use Rattle.rm_machine.specs.{Names.{IsObjectName, of_log, of_piece, of_set}, Sound.{IsSound}, State.{ledger, world}}
use Rattle.rm_machine.{specs.declared.state.{Instance.{Instance}, State.{State}}, proofs.Kept.{GrowsTo, StandOn, kept-on, stays-so}}
use Rattle.rm_machine.proofs.NewObjects.{logged}
use Rattle.rm_machine_laws.proofs.Dropping.{after-both}

-- the objects, where these stand under their names
abbrev pub with_puts : List Object → Held → Held
with_puts xs objects n = all_after name_of bytes_of xs n (objects n)

-- the rest comes after the first
pub puts-rest : (xs ys : List Object) (before after : Held) → HasPuts (xs ++ ys) before after → HasPuts ys (with_puts xs before) after
puts-rest xs ys before after has n = has n ∙ after-both name_of bytes_of xs ys n (before n)

pub put-there : (objects : Held) (x : Object) → with_puts (x ∷ []) objects x.name ≡ Some x.bytes
put-there objects x = ap (λ b. cond b (Some x.bytes) (objects x.name)) ((bytes_eq-Decides x.name x.name).1 refl)

pub put-beside : (objects : Held) (x : Object) (n : List ℕ) → n ≢ x.name → with_puts (x ∷ []) objects n ≡ objects n
put-beside objects x n other = elim (cases_Bool (bytes_eq n x.name)) [
  | inl same ↦ absurd (other ((bytes_eq-Decides n x.name).0 same))
  | inr not ↦ ap (λ b. cond b (Some x.bytes) (objects n)) not
]

-- the name of an id that is not drawn yet is that of no record
pub log-apart : (l : Ledger) (id : ℕ) (name : List ℕ) → IsLedger l → l.base.next_id ≤ id → id ≤ 4294967295 → IsObjectName l name → name ≢ log_name id
log-apart l id name is more most (of_log e has) same =
    let below = (log-id-within l e is has).1 in
    let tells : e.id ≡ id = log-name-tells e.id id (omega (arith, below, more, most)) (omega (arith, most)) same in
    omega (arith, below, more, tells)
log-apart l id name is more most (of_piece e has) same = log-no-piece id e.copy e.id (sym same)
log-apart l id name is more most (of_set e has) same = log-no-set id e.id (sym same)

pub piece-apart : (l : Ledger) (copy : Bool) (id : ℕ) (name : List ℕ) → IsLedger l → l.base.next_id ≤ id → id ≤ 4294967295 → IsObjectName l name → name ≢ piece_name copy id
piece-apart l copy id name is more most (of_log e has) same = log-no-piece e.id copy id same
piece-apart l copy id name is more most (of_piece e has) same =
    let below = (piece-id-within l e is has).1 in
    let tells : e.id ≡ id = (piece-name-tells e.copy copy e.id id (omega (arith, below, more, most)) (omega (arith, most)) same).1 in
    omega (arith, below, more, tells)
piece-apart l copy id name is more most (of_set e has) same = piece-no-set copy id e.id (sym same)

pub set-apart : (l : Ledger) (id : ℕ) (name : List ℕ) → IsLedger l → l.base.next_id ≤ id → id ≤ 4294967295 → IsObjectName l name → name ≢ set_name id
set-apart l id name is more most (of_log e has) same = log-no-set e.id id same
set-apart l id name is more most (of_piece e has) same = piece-no-set e.copy e.id id same
set-apart l id name is more most (of_set e has) same =
    let below = (set-id-within l e is has).1 in
    let tells : e.id ≡ id = set-name-tells e.id id (omega (arith, below, more, most)) (omega (arith, most)) same in
    omega (arith, below, more, tells)

-- so what stands under the names of records goes on to
pub stand-fresh : (objects : Held) (touched : List (List ℕ)) (l l' : Ledger) (x : Object) → ((name : List ℕ) → IsObjectName l name → name ≢ x.name) → StandOn objects (with_puts (x ∷ []) objects) touched touched l l'
stand-fresh objects touched l l' x apart name bytes names again (inl was) = inl was
stand-fresh objects touched l l' x apart name bytes names again (inr stands) = inr (put-beside objects x name (apart name names) ∙ stands)

-- one record more, whose artefact is true and whose object stands under a new name
pub borne-more : (s q : State) (x : Object) (new : Made) (h : List Change) (objects : Held) (made : List Made) (touched : List (List ℕ)) → IsSound q → HistoryFits q h → GrowsTo (database_of (ledger s)) (database_of (ledger q))
    → ((name : List ℕ) → IsObjectName (ledger s) name → name ≢ x.name) → ((y : Made) → Contains made y → IsTrueArtefact (world q) h y.artefact) → IsTrueArtefact (world q) h new.artefact
    → ((e : LogEntry) → Contains (ledger q).logs e → Contains (ledger s).logs e ⊎ HasLogArtefact (with_puts (x ∷ []) objects) (made ++ new ∷ []) touched e)
    → ((p : PieceEntry) → Contains (ledger q).pieces p → Contains (ledger s).pieces p ⊎ HasPieceArtefact (with_puts (x ∷ []) objects) (made ++ new ∷ []) touched p)
    → ((e : SetEntry) → Contains (ledger q).sets e → Contains (ledger s).sets e ⊎ HasSetArtefact (with_puts (x ∷ []) objects) (made ++ new ∷ []) touched (database_of (ledger q)) e)
    → HaveArtefacts objects made touched (ledger s) → IsBorneOut q h (with_puts (x ∷ []) objects) (made ++ new ∷ []) touched
borne-more s q x new h objects made touched sound keeps grows apart all is logs pieces sets kept = record {
  state = sound;
  keeps = keeps;
  artefacts = λ y has. elim (Contains-push_cases made new y has) [
    | inl old ↦ all y old
    | inr same ↦ subst (λ (z : Made). IsTrueArtefact (world q) h z.artefact) same is
  ];
  records = kept-on objects (with_puts (x ∷ []) objects) made (made ++ new ∷ []) touched touched (ledger s) (ledger q) grows
      (stand-fresh objects touched (ledger s) (ledger q) x apart) (λ y has. Contains-append_left made (new ∷ []) y has) logs pieces sets kept;
}

-- the log agrees with the history, and its record has its fields, size and digest
pub borne-logged : (s : State) (i : Instance) (e : LogEntry) (a : LogFile) (h : List Change) (objects : Held) (made : List Made) (touched : List (List ℕ)) → IsSound (logged s i e) → HistoryFits (logged s i e) h → e.id ≡ (ledger s).base.next_id
    → HasLogFields e a → HasDigest (spelling a) e.size e.sha → IsTrueArtefact (world s) h (a_log a) → IsBorneOut s h objects made touched
    → IsBorneOut (logged s i e) h (with_puts (record { name = log_name e.id; bytes = spelling a } ∷ []) objects) (made ++ record { name = log_name e.id; artefact = a_log a } ∷ []) touched
borne-logged s i e a h objects made touched sound keeps id fields digest agrees stands =
    let x : Object = record { name = log_name e.id; bytes = spelling a } in
    let new : Made = record { name = log_name e.id; artefact = a_log a } in
    let rules = stands.state.catalog.ledger in
    borne-more s (logged s i e) x new h objects made touched sound keeps (stays-so (database_of (ledger s)))
    (λ name names. log-apart (ledger s) e.id name rules (omega (arith, id)) (omega (arith, id, rules.base.next_id.1)) names) stands.artefacts agrees
    (λ y has. elim (Contains-push_cases (ledger s).logs e y has) [
      | inl old ↦ inl old
      | inr same ↦ inr (subst (HasLogArtefact (with_puts (x ∷ []) objects) (made ++ new ∷ []) touched) same (record { artefact = a; is = Contains-push made new; fields = fields; digest = digest; there = inr (put-there objects x) }))
    ])
    (λ y has. inl has) (λ y has. inl has) stands.records
