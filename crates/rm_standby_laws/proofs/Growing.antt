-- Each statement leaves the incarnations and the datafiles that there are, and a new datafile is created at the end of its incarnation.
use Rattle.std.specs.{Prelude.{MatchOption}, Option.{option_map_or}}
use Rattle.std.proofs.Common.{◌≡◌, ◌+◌, ◌-◌, ◌∙◌, ◌++◌, ◌⊎◌, ◌==◌, inl, inr, max, ℕ, zero, suc, List, [], ◌∷◌, Option, Some, None, Ok, Err, IsSomeAnd, Bool, true, false, cond, refl, ap, sym, subst, arith, slice_get}
use Rattle.std.proofs.lemmas.List.{length-set}
use Rattle.rm_backup.specs.declared.renewing.Renewed.{Renewed}
use Rattle.rm_base.{specs.{Store.{Held}, declared.{kinds.Status.{Status}, refusal.Refusal.{Refusal}}}, proofs.Slots.{get-push}}
use Rattle.rm_catalog.specs.declared.record.{LogEntry.{LogEntry}, PieceEntry.{PieceEntry}, SetEntry.{SetEntry}}
use Rattle.rm_history.specs.{Tree.{HasParentsBelow, IsThere, end_of, parent_of, reset_of, with_end}, World.{file_of}}
use Rattle.rm_history.{specs.declared.{tree.Incarnation.{Incarnation}, world.Datafile.{Datafile}}, proofs.Histories.{file_of-with_file}}
use Rattle.rm_catalog_typed.specs.{Changes.{with_log, with_new_log, with_piece, with_set}, TypedCatalog.{TypedCatalog}}
use Rattle.rm_catalog_typed.proofs.Trees.{Keeps, keeps_branch, keeps_end, parents_below}
use Rattle.rm_live.specs.declared.history.{Answer.{Answer, TheVariants.{Found, Mended, Wrote}}, Call.{Call}}
use Rattle.rm_live.specs.declared.history.{Call.TheVariants.{Mend, Read, Write as write_call}, Event.{Event}}
use Rattle.rm_piece.specs.declared.piece.Piece.{Piece}
use Rattle.rm_redo.specs.declared.log_file.LogFile.{LogFile}
use Rattle.rm_report.specs.declared.line.Line.{Line}
use Rattle.rm_machine.specs.Archive.{after_all, after_thread, after_threads}
use Rattle.rm_machine.specs.CatalogName.{Found as Stands, IsFound, catalog_by, catalog_refusal, catalogued, found_log, found_piece, inc_of, raised, top_of}
use Rattle.rm_machine.specs.{BackupLogs.{copy_entry, with_copies}, CreateDatafile.{new_datafile, with_datafile}}
use Rattle.rm_machine.specs.{Effect.{Effect, done, refused}, Events.{after_event, after_events}}
use Rattle.rm_machine.specs.MadeObjects.{Packed, after_object, after_objects, alone, in_set}
use Rattle.rm_machine.specs.{Marks.{marks_before, one_further, with_marks}, Mount.{mounted}, OpenResetlogs.{branched_off}}
use Rattle.rm_machine.specs.{RecoverCopy.{after_copies, after_copy}, SwitchLogfile.{with_archived}, Sound.{IsSound}}
use Rattle.rm_machine.specs.Upkeep.{changed_to, log_at, log_changed, piece_at, piece_changed, set_at, set_changed, with_catalog, with_keep, with_status, with_statuses, without_all, without_record}
use Rattle.rm_machine.specs.{State.{current_of, ledger, now_of, tree, world}, declared.state.State.{State}}
use Rattle.rm_lang_statement.specs.declared.command.{BackupForm.{BackupForm}, ChangeTo.{ChangeTo}}
use Rattle.rm_lang_statement.specs.declared.command.ChangeTo.TheVariants.{Available, Keep, NoKeep, Unavailable, Uncatalog}

-- The incarnations stay, with no end that falls, and the datafiles; a new one was created at the end that its incarnation had.
pub record Grows (s t : State) : Type 0 where
  pub keeps : Keeps (tree s) (tree t)
  pub stays : (f : ℕ) (d : Datafile) → file_of (world s) f ≡ Some d → file_of (world t) f ≡ Some d
  pub comes : (f : ℕ) (d : Datafile) → file_of (world t) f ≡ Some d
      → (file_of (world s) f ≡ Some d) ⊎ (IsThere (tree s) d.inc × (d.creation ≡ end_of (tree s) d.inc))

-- the incarnations stay so, and the datafiles are the same
pub record GoesOn (s t : State) : Type 0 where
  pub keeps : Keeps (tree s) (tree t)
  pub files : (ledger t).files ≡ (ledger s).files

pub grows-on : (s t : State) → GoesOn s t → Grows s t
grows-on s t on = record {
  keeps = on.keeps;
  stays = λ f d is. ap (λ (ds : List Datafile). cond (f == 0) None (slice_get ds (f - 1))) on.files ∙ is;
  comes = λ f d is. inl (sym (ap (λ (ds : List Datafile). cond (f == 0) None (slice_get ds (f - 1))) on.files) ∙ is);
}

keeps-same : (a : List Incarnation) → Keeps a a
keeps-same a = record { there = λ i is. is; reset = λ i is. refl; end = λ i is. omega arith; owners = λ i g is. refl }

keeps-then : (a b c : List Incarnation) → Keeps a b → Keeps b c → Keeps a c
keeps-then a b c first second = record {
  there = λ i is. second.there i (first.there i is);
  reset = λ i is. second.reset i (first.there i is) ∙ first.reset i is;
  end = λ i is. omega (arith, first.end i is, second.end i (first.there i is));
  owners = λ i g is. second.owners i g (first.there i is) ∙ first.owners i g is;
}

goes-then : (s u t : State) → GoesOn s u → GoesOn u t → GoesOn s t
goes-then s u t first second = record { keeps = keeps-then (tree s) (tree u) (tree t) first.keeps second.keeps; files = second.files ∙ first.files }

-- What leaves all of that alone

-- of a catalog and of a database: its incarnations, its datafiles, and which incarnation is the current one
abbrev core_in : TypedCatalog → List Incarnation × List Datafile × ℕ
core_in r = (r.ledger.tree, r.ledger.files, r.ledger.base.current)

abbrev pub core : State → List Incarnation × List Datafile × ℕ
core s = core_in s.catalog

pub goes-same : (s t : State) → core t ≡ core s → GoesOn s t
goes-same s t is = record {
  keeps = subst (Keeps (tree s)) (sym (ap (λ (x : List Incarnation × List Datafile × ℕ). x.0) is)) (keeps-same (tree s));
  files = ap (λ (x : List Incarnation × List Datafile × ℕ). x.1) is;
}

there-same : (s t : State) → core t ≡ core s → IsThere (tree s) (current_of s) → IsThere (tree t) (current_of t)
there-same s t is there = subst (λ (x : List Incarnation × List Datafile × ℕ). IsThere x.0 x.2) (sym is) there

-- what was done, by the state that it comes to
ended : (s q t : State) (lines said : List Line) (e x : Effect) → done lines e t ≡ done said x q → GoesOn s q → Grows s t
ended s q t lines said e x is on = let to : q ≡ t = cc in subst (Grows s) to (grows-on s q on)

pub quiet : (s q t : State) (lines said : List Line) (e x : Effect) → done lines e t ≡ done said x q → core q ≡ core s → Grows s t
quiet s q t lines said e x is same = ended s q t lines said e x is (goes-same s q same)

-- also where another incarnation is the current one
pub chosen-grows : (s q t : State) (lines said : List Line) (e x : Effect) → done lines e t ≡ done said x q → tree q ≡ tree s
    → (ledger q).files ≡ (ledger s).files → Grows s t
chosen-grows s q t lines said e x is tree_same files_same =
    ended s q t lines said e x is (record { keeps = subst (Keeps (tree s)) (sym tree_same) (keeps-same (tree s)); files = files_same })

-- the same, where it might have been refused
pub unless-quiet : (b : Bool) (r : Refusal) (s q t : State) (lines said : List Line) (e x : Effect) → done lines e t ≡ cond b (refused r) (done said x q)
    → core q ≡ core s → Grows s t
unless-quiet true r s q t lines said e x is same = absurd (cc)
unless-quiet false r s q t lines said e x is same = quiet s q t lines said e x is same

accepted-on : (o : Option Refusal) (s q t : State) (lines said : List Line) (e x : Effect) → done lines e t ≡ option_map_or refused o (done said x q)
    → GoesOn s q → Grows s t
accepted-on None s q t lines said e x is on = ended s q t lines said e x is on
accepted-on (Some r) s q t lines said e x is on = absurd (let clash : done lines e t ≡ refused r = is in cc)

pub accepted-quiet : (o : Option Refusal) (s q t : State) (lines said : List Line) (e x : Effect) → done lines e t ≡ option_map_or refused o (done said x q)
    → core q ≡ core s → Grows s t
accepted-quiet o s q t lines said e x is same = accepted-on o s q t lines said e x is (goes-same s q same)

-- Records

map-core : {X : Type 0} (f : X → TypedCatalog) (o : Option X) (r : TypedCatalog) → ((x : X) → core_in (f x) ≡ core_in r)
    → core_in (option_map_or f o r) ≡ core_in r
map-core f None r same = refl
map-core f (Some x) r same = same x

changed-core : (f : LogEntry → LogEntry) (g : PieceEntry → PieceEntry) (k : SetEntry → SetEntry) (n : ℕ) (r : TypedCatalog)
    → core_in (set_changed k n (piece_changed g n (log_changed f n r))) ≡ core_in r
changed-core f g k n r =
    let first : TypedCatalog = log_changed f n r in
    let second : TypedCatalog = piece_changed g n first in
    map-core (λ (e : SetEntry). with_set second (k e)) (set_at second n) second (λ e. refl)
    ∙ map-core (λ (p : PieceEntry). with_piece first (g p)) (piece_at first n) first (λ p. refl)
    ∙ map-core (λ (e : LogEntry). with_log r (f e)) (log_at r n) r (λ e. refl)

status-core : (st : Status) (n : ℕ) (r : TypedCatalog) → core_in (with_status st n r) ≡ core_in r
status-core st n r = changed-core (λ e. record e { status = st }) (λ p. record p { status = st }) (λ e. record e { status = st }) n r

keep-core : (keep : Bool) (n : ℕ) (r : TypedCatalog) → core_in (with_keep keep n r) ≡ core_in r
keep-core keep n r = changed-core (λ e. record e { keep = keep }) (λ p. record p { keep = keep }) (λ e. record e { keep = keep }) n r

pub change-core : (to : ChangeTo) (n : ℕ) (r : TypedCatalog) → core_in (changed_to to n r) ≡ core_in r
change-core Available n r = status-core _ n r
change-core Unavailable n r = status-core _ n r
change-core Uncatalog n r = refl
change-core Keep n r = keep-core true n r
change-core NoKeep n r = keep-core false n r

pub statuses-core : (xs : List (ℕ × Status)) (r : TypedCatalog) → core_in (with_statuses xs r) ≡ core_in r
statuses-core [] r = refl
statuses-core (x ∷ xs) r = statuses-core xs (with_status x.1 x.0 r) ∙ status-core x.1 x.0 r

pub all-core : (ns : List ℕ) (r : TypedCatalog) → core_in (without_all ns r) ≡ core_in r
all-core [] r = refl
all-core (n ∷ ns) r = all-core ns (without_record n r)

pub logs-core : (xs : List (ℕ × LogFile)) (r : TypedCatalog) → core_in (with_copies r xs) ≡ core_in r
logs-core [] r = refl
logs-core (x ∷ xs) r = logs-core xs (with_new_log r (copy_entry x))

-- a copy that takes over level 1s
copy-core : (s : State) (tag : List ℕ) (f : ℕ) (x : Renewed) → core (after_copy s tag (f, x)) ≡ core s
copy-core s tag f x = by x.merged
  where
    by : (o : Option Piece) → core (after_copy s tag (f, record x { merged = o })) ≡ core s
    by None = refl
    by (Some last) = refl

pub copies-core : (xs : List (ℕ × Renewed)) (s : State) (tag : List ℕ) → core (after_copies s tag xs) ≡ core s
copies-core [] s tag = refl
copies-core (x ∷ xs) s tag = copies-core xs (after_copy s tag x) tag ∙ copy-core s tag x.0 x.1

-- an object of a BACKUP
pub objects-core : (b : BackupForm) (tag : List ℕ) (xs : List Packed) (s : State) → core (after_objects s b tag xs) ≡ core s
objects-core b tag [] s = refl
objects-core b tag (alone x ∷ xs) s = objects-core b tag xs (after_object s b tag (alone x))
objects-core b tag (in_set checkpoint xs ∷ rest) s = objects-core b tag rest (after_object s b tag (in_set checkpoint xs))

-- a log that is archived
thread-core : (b : Bool) (s : State) (t : ℕ) → core (cond b (with_archived s t) s) ≡ core s
thread-core true s t = refl
thread-core false s t = refl

threads-core : (n t : ℕ) (s : State) → core (after_threads s t n) ≡ core s
threads-core zero t s = refl
threads-core (suc n) t s = threads-core n (t + 1) (after_thread s t) ∙ thread-core _ s t

pub archived-core : (s : State) → core (after_all s) ≡ core s
archived-core s = threads-core 4 1 s

pub switched-quiet : (b : Bool) (s q t : State) (lines said other : List Line) (e x y : Effect) → done lines e t ≡ cond b (done said x q) (done other y s)
    → core q ≡ core s → Grows s t
switched-quiet true s q t lines said other e x y is same = quiet s q t lines said e x is same
switched-quiet false s q t lines said other e x y is same = quiet s s t lines other e y is refl

-- a mount, and a mark
pub mounted-core : (b : Bool) (s q : State) → core q ≡ core s → core (cond b (mounted q) s) ≡ core s
mounted-core true s q same = same
mounted-core false s q same = refl

marked-core : (b : Bool) (s : State) → core (cond b s (record s { catalog = with_marks s.catalog (marks_before s) })) ≡ core s
marked-core true s = refl
marked-core false s = refl

-- What takes SCNs

further : (s : State) → IsThere (tree s) (current_of s) → Keeps (tree s) (with_end (tree s) (current_of s) (now_of s + 1))
further s there = keeps_end (tree s) (current_of s) (now_of s + 1) there (omega arith)

pub further-grows : (s q t : State) (lines said : List Line) (e x : Effect) → IsThere (tree s) (current_of s) → done lines e t ≡ done said x q
    → tree q ≡ with_end (tree s) (current_of s) (now_of s + 1) → (ledger q).files ≡ (ledger s).files → Grows s t
further-grows s q t lines said e x there is to same =
    ended s q t lines said e x is (record { keeps = subst (Keeps (tree s)) (sym to) (further s there); files = same })

-- the events of a BACKUP or a BLOCKRECOVER
record Walks (u t : State) : Type 0 where
  on : GoesOn u t
  there : IsThere (tree t) (current_of t)

event-walks : (u : State) (c : Call) (answer : Answer) → IsThere (tree u) (current_of u) → Walks u (after_event u c answer)
event-walks u (Read f b) answer there = record { on = goes-same u u refl; there = there }
event-walks u (write_call t f b content) (Found row) there = record { on = goes-same u u refl; there = there }
event-walks u (write_call t f b content) (Wrote (Ok scn)) there =
    let on = further u there in record { on = record { keeps = on; files = refl }; there = on.there (current_of u) there }
event-walks u (write_call t f b content) (Wrote (Err fault)) there = record { on = goes-same u u refl; there = there }
event-walks u (write_call t f b content) (Mended made) there = record { on = goes-same u u refl; there = there }
event-walks u (Mend f row) (Found found) there = record { on = goes-same u u refl; there = there }
event-walks u (Mend f row) (Wrote w) there = record { on = goes-same u u refl; there = there }
event-walks u (Mend f row) (Mended true) there = record { on = record { keeps = keeps-same (tree u); files = refl }; there = there }
event-walks u (Mend f row) (Mended false) there = record { on = goes-same u u refl; there = there }

events-on : (es : List Event) (u : State) → IsThere (tree u) (current_of u) → GoesOn u (after_events u es)
events-on [] u there = goes-same u u refl
events-on (x ∷ es) u there =
    let first = event-walks u x.call x.answer there in
    let q : State = after_event u x.call x.answer in
    goes-then u q (after_events q es) first.on (events-on es q first.there)

-- from behind a mark, and what comes after them
pub events-grow : (b : Bool) (es : List Event) (s u q t : State) (lines said : List Line) (e x : Effect) → IsThere (tree s) (current_of s)
    → done lines e t ≡ done said x q
    → core u ≡ core (cond b s (record s { catalog = with_marks s.catalog (marks_before s) })) → core q ≡ core (after_events u es) → Grows s t
events-grow b es s u q t lines said e x there is begun same =
    let start : core u ≡ core s = begun ∙ marked-core b s in
    let after : State = after_events u es in
    let on = goes-then u after q (events-on es u (there-same s u start there)) (goes-same after q same) in
    ended s q t lines said e x is (goes-then s u q (goes-same s u start) on)

-- DISABLE THREAD, by whether a log is archived
pub off-grows : (b : Bool) (s q t : State) (n : ℕ) (lines said : List Line) (e x : Effect) → IsThere (tree s) (current_of s) → done lines e t ≡ done said x q
    → tree q ≡ (one_further (cond b (with_archived s n) s)).ledger.tree → (ledger q).files ≡ (ledger (cond b (with_archived s n) s)).files → Grows s t
off-grows true s q t n lines said e x there is to same = further-grows s q t lines said e x there is to same
off-grows false s q t n lines said e x there is to same = further-grows s q t lines said e x there is to same

-- A new datafile

pushed : (none : Bool) (fs : List Datafile) (new d : Datafile) (k : ℕ) → cond none None (slice_get (fs ++ new ∷ []) k) ≡ Some d
    → (cond none None (slice_get fs k) ≡ Some d) ⊎ (new ≡ d)
pushed true fs new d k is = absurd (cc)
pushed false fs new d k is = elim (get-push fs new d k is) [
  | inl last ↦ inr last.1
  | inr front ↦ inl front
]

pub created-grows : (s t : State) (blocks : ℕ) (lines said : List Line) (e x : Effect) → IsThere (tree s) (current_of s)
    → done lines e t ≡ done said x (with_datafile s blocks) → Grows s t
created-grows s t blocks lines said e x there is =
    let q : State = with_datafile s blocks in
    let to : q ≡ t = cc in
    let new : Datafile = new_datafile s blocks in
    subst (Grows s) to (record {
      keeps = further s there;
      stays = λ f d held. file_of-with_file (world s) new d f held;
      comes = λ f d held. elim (pushed (f == 0) (ledger s).files new d (f - 1) held) [
        | inl old ↦ inl old
        | inr one ↦ inr (subst (λ (y : Datafile). IsThere (tree s) y.inc × (y.creation ≡ end_of (tree s) y.inc)) one (there, refl))
      ];
    })

-- A new incarnation

branched-on : (q : State) (at : ℕ) → HasParentsBelow (tree q) → IsThere (tree q) (current_of q) → GoesOn q (branched_off q at)
branched-on q at below there = record { keeps = keeps_branch (tree q) (current_of q) at below there; files = refl }

pub branch-grows : (o : Option ℕ) (s t : State) (lines : List Line) (said : ℕ → List Line) (e x : Effect) → IsSound s
    → IsSomeAnd o (λ at. done lines e t ≡ done (said at) x (branched_off (after_all s) at)) → Grows s t
branch-grows None s t lines said e x sound is = absurd is
branch-grows (Some at) s t lines said e x sound is =
    let u : State = after_all s in
    let q : State = branched_off u at in
    let same = archived-core s in
    let there = there-same s u same sound.catalog.ledger.current in
    let below : HasParentsBelow (tree u) =
    subst (λ (x : List Incarnation × List Datafile × ℕ). HasParentsBelow x.0) (sym same) (parents_below (tree s) sound.catalog.ledger.incarnations) in
    ended s q t lines (said at) e x is (goes-then s u q (goes-same s u same) (branched-on u at below there))

-- CATALOG: an end rises where the incarnation is there

raised-on : (s : State) (x : Stands) → IsThere (raised s x).ledger.tree (inc_of x) → Keeps (tree s) (raised s x).ledger.tree
raised-on s x there =
    let end : ℕ = max (end_of (tree s) (inc_of x)) (top_of x) in
    let many = length-set (tree s) (inc_of x - 1) (record { parent = parent_of (tree s) (inc_of x); reset = reset_of (tree s) (inc_of x); end = end }) in
    keeps_end (tree s) (inc_of x) end (there.0, omega (arith, there.1, many)) (omega arith)

catalogued-on : (s : State) (held : Held) (name : List ℕ) (x : Stands) → IsFound s held name x → GoesOn s (with_catalog s (catalogued s x))
catalogued-on s held name (found_log id a) is = record { keeps = raised-on s (found_log id a) is.obeys.there; files = refl }
catalogued-on s held name (found_piece copy id a) is = record { keeps = raised-on s (found_piece copy id a) is.obeys.0.there; files = refl }

refused-not : (b : Bool) (r other : Refusal) (lines : List Line) (e : Effect) (t : State) → done lines e t ≡ cond b (refused r) (refused other) → ⊥
refused-not true r other lines e t is = absurd (cc)
refused-not false r other lines e t is = absurd (cc)

pub catalog-grows : (o : Option Stands) (s t : State) (held : Held) (name : List ℕ) (id : ℕ) (lines : List Line) (e : Effect)
    → MatchOption o ((x : Stands) → ¬ IsFound s held name x) (IsFound s held name) → done lines e t ≡ catalog_by s name id o → Grows s t
catalog-grows None s t held name id lines e finds is = absurd (refused-not _ _ _ lines e t is)
catalog-grows (Some x) s t held name id lines e finds is =
    accepted-on (catalog_refusal s name x) s (with_catalog s (catalogued s x)) t lines _ e _ is (catalogued-on s held name x finds)
