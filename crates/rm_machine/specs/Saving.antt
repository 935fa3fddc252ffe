-- What a session saves at its end: each datafile in place, and each online log that is not lost.
use Rattle.std.specs.Prelude.{ℕ, ◌≡◌, ◌+◌, ◌&&◌, not, if◌then◌else◌, MatchBool, Option, Some, None, List, [], ◌∷◌, ◌++◌, length, map}
use Rattle.std.specs.Option.{option_map, option_map_or}
use Rattle.sha2.specs.Sha256.{sha256}
use Rattle.rm_blocks.specs.File.{File}
use Rattle.rm_catalog.specs.declared.record.{HeadEntry.{HeadEntry}, PartEntry.{PartEntry}}
use Rattle.rm_commit.specs.{Names.{HasPuts}, declared.commit.Object.{Object}}
use Rattle.rm_evidence.specs.{Gathered.{placed_piece}, Names.{site_name}}
use Rattle.rm_redo.specs.{Logs.{Logs}, Online.{counted_as, lost_log, no_log}, declared.online.ThreadLog.{ThreadLog}}
use Rattle.rm_catalog_typed.specs.{Changes.{with_base, with_saved}, Switches.{enabled_at}, TypedCatalog.{TypedCatalog, Saved}}
use Rattle.rm_machine.specs.{Damage.{without_damaged}, Effect.{Artefact, a_log, a_piece, Made}, Machine.{Machine}, Marks.{lacks_ids}}
use Rattle.rm_machine.specs.{Rest.{Rest, at_rest}, Saved.{spelling_of}, State.{ledger, current_of, now_of, counted, online}}
use Rattle.rm_machine.specs.{Tracked.{first_tracker}, declared.state.State.{State}}

-- a part: of a datafile, and then thread is 0, or of a redo thread, and then file is 0
pub record SitePart : Type 0 where
  pub file : ℕ
  pub thread : ℕ
  pub artefact : Artefact

-- from datafile f on
abbrev pub file_parts : State → ℕ → List (Option File) → List SitePart
file_parts s f [] = []
file_parts s f (None ∷ place) = file_parts s (f + 1) place
file_parts s f (Some x ∷ place) = record { file = f; thread = 0; artefact = a_piece (placed_piece (ledger s).base.dbid (counted s x)) } ∷ file_parts s (f + 1) place

-- from thread t on
abbrev pub log_parts : State → ℕ → List ThreadLog → List SitePart
log_parts s t [] = []
log_parts s t (l ∷ logs) = (if l.is_there && not l.is_lost then record { file = 0; thread = t; artefact = a_log (online s t) } ∷ [] else []) ++ log_parts s (t + 1) logs

abbrev pub parts_of : State → List SitePart
parts_of s = file_parts s 1 s.instance.place ++ log_parts s 1 s.instance.logs.threads

-- the part under an id: its record, its object, and its artefact under the name of that
abbrev pub entry_of : ℕ → SitePart → PartEntry
entry_of id p = record { id = id; file = p.file; thread = p.thread; size = length (spelling_of p.artefact); sha = sha256 (spelling_of p.artefact) }

abbrev pub object_of : ℕ → SitePart → Object
object_of id p = record { name = site_name id; bytes = spelling_of p.artefact }

abbrev pub made_of : ℕ → SitePart → Made
made_of id p = record { name = site_name id; artefact = p.artefact }

-- of these parts, which take the ids from this one on
abbrev pub with_ids : {A : Type 0} → (ℕ → SitePart → A) → ℕ → List SitePart → List A
with_ids make id [] = []
with_ids make id (p ∷ ps) = make id p ∷ with_ids make (id + 1) ps

-- what the head tells: the mode, and the point if there is one
abbrev pub head_of : State → HeadEntry
head_of s = record { opened = s.instance.is_open; inc = option_map_or (λ at. current_of s) s.instance.point 0; scn = option_map_or (λ at. at) s.instance.point 0 }

abbrev pub saved_of : State → Saved
saved_of s = record { parts = with_ids entry_of (ledger s).base.next_id (parts_of s); head = head_of s }

-- the catalog with the saved site, whose objects took the next ids
abbrev pub with_site : State → TypedCatalog
with_site s = with_saved (with_base s.catalog (record (ledger s).base { next_id = (ledger s).base.next_id + length (parts_of s) })) (saved_of s)

-- The site was saved: the objects of its parts were put, and the records tell of it.
pub record IsSavedAs (m : Machine) (s : State) (r : Rest) : Type 0 where
  pub catalog : r.catalog ≡ Some (with_site s)
  pub history : r.history ≡ m.history
  pub objects : HasPuts (with_ids object_of (ledger s).base.next_id (parts_of s)) m.objects r.objects
  pub made : r.made ≡ m.made ++ with_ids made_of (ledger s).base.next_id (parts_of s)
  pub touched : r.touched ≡ m.touched

-- A session that applied a list saves its site, where the ids of a save are left; each list leaves them. Each datafile of which a block
-- is damaged is lost before. One that applied none leaves the machine as it is.
abbrev pub IsSavedBy : Option State → Machine → Rest → Type 0
IsSavedBy None m r = r ≡ at_rest m
IsSavedBy (Some s) m r = MatchBool (lacks_ids s 0) (r ≡ at_rest m) (IsSavedAs m (without_damaged s) r)

-- the log of a thread, of which nothing is known where it is lost
abbrev pub a_log_kept : ThreadLog → ThreadLog
a_log_kept l = if l.is_there then (if l.is_lost then lost_log else l) else no_log

-- what the next session loads of it: the same, with what is in place as it counts, nothing known of lost logs, and changes tracked anew
abbrev pub saved_logs : State → Logs
saved_logs s = counted_as (record s.instance.logs { threads = map a_log_kept s.instance.logs.threads }) (current_of s) (enabled_at (ledger s) (current_of s) (now_of s))

abbrev pub rested : State → State
rested s =
    record s {
      catalog = with_site s;
      instance = record s.instance {
        place = map (option_map (counted s)) s.instance.place;
        logs = saved_logs s;
        tracker = first_tracker s.instance.is_open (ledger s);
      };
    }
