-- CHANGE BACKUP, DELETE BACKUP, CROSSCHECK and DELETE EXPIRED lead on.
use Rattle.std.proofs.Common.{◌≡◌, ◌++◌, ℕ, List, [], ◌∷◌, None, Bool, true, false, refl}
use Rattle.rm_base.specs.{Store.{Held}, declared.{block.Change.{Change}, kinds.{Class.{Class}, Status.{Status}}}}
use Rattle.rm_base.specs.declared.kinds.Status.TheVariants as status
use Rattle.rm_catalog.specs.declared.record.{LogEntry.{LogEntry}, PieceEntry.{PieceEntry}, SetEntry.{SetEntry}}
use Rattle.rm_report.specs.declared.line.Line.{Line}
use Rattle.rm_catalog_typed.specs.TypedCatalog.{TypedCatalog}
use Rattle.rm_lang_statement.specs.declared.command.ChangeTo.{ChangeTo, TheVariants.{Available, Keep, NoKeep, Unavailable, Uncatalog}}
use Rattle.rm_lang_statement.specs.declared.command.Command.TheVariants.{ChangeBackup, Crosscheck, DeleteExpired}
use Rattle.rm_machine.specs.{Effect.{Effect, LeavesObjects, Made, done, no_effect}, Machine.{IsBorneOut}, Sound.{IsSound}}
use Rattle.rm_machine.specs.Upkeep.{changed_to, log_changed, piece_changed, set_changed, with_catalog, with_keep, with_status, with_statuses, without_all}
use Rattle.rm_machine.specs.declared.state.State.{State}
use Rattle.rm_machine.proofs.{Entries.{GoesOn, LogAs, PieceAs, SetAs, log-on, piece-on, set-on, then-on, without-on}, Upkeep.{all-on}}
use Rattle.rm_machine_laws.proofs.{Leading.{LeadsOnBy, StaysBy}, Quiet.{quiet-on, quiet-stays}}

-- the log, the piece and the set of an id, one after another
each-on : (s : State) (f : LogEntry → LogEntry) (g : PieceEntry → PieceEntry) (k : SetEntry → SetEntry) (n : ℕ) → LogAs f → PieceAs g → SetAs k → IsSound s → GoesOn s (set_changed k n (piece_changed g n (log_changed f n s.catalog)))
each-on s f g k n logs pieces sets sound =
    let first = log-on s f n logs sound in
    let r : TypedCatalog = log_changed f n s.catalog in
    let q : TypedCatalog = piece_changed g n r in
    let both = then-on s r q first (piece-on (with_catalog s r) g n pieces (first.sound sound)) in
    then-on s q (set_changed k n q) both (set-on (with_catalog s q) k n sets (both.sound sound))

-- another status
pub status-on : (s : State) (st : Status) (n : ℕ) → IsSound s → GoesOn s (with_status st n s.catalog)
status-on s st n = each-on s (λ e. record e { status = st }) (λ p. record p { status = st }) (λ e. record e { status = st }) n (λ e. (st, e.keep, refl)) (λ p. (st, p.keep, refl)) (λ e. (st, e.keep, refl))

-- kept forever, or not
pub keep-on : (s : State) (keep : Bool) (n : ℕ) → IsSound s → GoesOn s (with_keep keep n s.catalog)
keep-on s keep n = each-on s (λ e. record e { keep = keep }) (λ p. record p { keep = keep }) (λ e. record e { keep = keep }) n (λ e. (e.status, keep, refl)) (λ p. (p.status, keep, refl)) (λ e. (e.status, keep, refl))

pub change-on : (s : State) (to : ChangeTo) (n : ℕ) → IsSound s → GoesOn s (changed_to to n s.catalog)
change-on s Available n sound = status-on s status.Available n sound
change-on s Unavailable n sound = status-on s status.Unavailable n sound
change-on s Uncatalog n sound = without-on s n sound
change-on s Keep n sound = keep-on s true n sound
change-on s NoKeep n sound = keep-on s false n sound

pub statuses-on : (xs : List (ℕ × Status)) (s : State) → IsSound s → GoesOn s (with_statuses xs s.catalog)
statuses-on [] s sound = record { sound = λ is. is; borne = λ h objects made touched is. is; saved = λ none. none }
statuses-on (x ∷ xs) s sound =
    let first = status-on s x.1 x.0 sound in
    let r : TypedCatalog = with_status x.1 x.0 s.catalog in
    then-on s r (with_statuses xs r) first (statuses-on xs (with_catalog s r) (first.sound sound))

-- a statement that puts another catalog in place, and leaves objects alone
pub catalog-on : (s : State) (r : TypedCatalog) (h : List Change) (objects : Held) (made : List Made) (touched : List (List ℕ)) (lines said : List Line) (e : Effect) (t : State) (after : Held)
    → GoesOn s r → IsBorneOut s h objects made touched → done said e t ≡ done lines no_effect (with_catalog s r) → LeavesObjects e objects after → IsBorneOut t (h ++ e.changes) after (made ++ e.made) touched
catalog-on s r h objects made touched lines said e t after on borne is effect = quiet-on (with_catalog s r) h objects made touched lines said e t after is effect (on.borne h objects made touched borne)

pub catalog-stays : (s : State) (r : TypedCatalog) (lines said : List Line) (e : Effect) (t : State) → GoesOn s r → IsSound s → s.catalog.saved ≡ None → done said e t ≡ done lines no_effect (with_catalog s r) → IsSound t × (t.catalog.saved ≡ None)
catalog-stays s r lines said e t on sound unsaved is = quiet-stays (with_catalog s r) lines said e t is (on.sound sound) (on.saved unsaved)

pub changed-on : (n : ℕ) (to : ChangeTo) → LeadsOnBy (ChangeBackup n to)
changed-on n to s h objects made touched said e t after well borne tell none does effect =
    catalog-on s (changed_to to n s.catalog) h objects made touched _ said e t after (change-on s to n borne.state) borne does effect

pub changed-stays : (n : ℕ) (to : ChangeTo) → StaysBy (ChangeBackup n to)
changed-stays n to s objects said e t well sound unsaved none does = catalog-stays s (changed_to to n s.catalog) _ said e t (change-on s to n sound) sound unsaved does

pub checked-on : (class : Class) → LeadsOnBy (Crosscheck class)
checked-on class s h objects made touched said e t after well borne tell none does effect =
    catalog-on s (with_statuses does.checked s.catalog) h objects made touched _ said e t after (statuses-on does.checked s borne.state) borne does.is effect

pub checked-stays : (class : Class) → StaysBy (Crosscheck class)
checked-stays class s objects said e t well sound unsaved none does = catalog-stays s (with_statuses does.checked s.catalog) _ said e t (statuses-on does.checked s sound) sound unsaved does.is

pub expired-on : (class : Class) → LeadsOnBy (DeleteExpired class)
expired-on class s h objects made touched said e t after well borne tell none does effect =
    catalog-on s (without_all does.ids s.catalog) h objects made touched _ said e t after (all-on does.ids s borne.state) borne does.is effect

pub expired-stays : (class : Class) → StaysBy (DeleteExpired class)
expired-stays class s objects said e t well sound unsaved none does = catalog-stays s (without_all does.ids s.catalog) _ said e t (all-on does.ids s sound) sound unsaved does.is
