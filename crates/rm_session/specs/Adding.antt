-- Parts of a saved site, which take ids one after another.
use Rattle.std.specs.Prelude.{ℕ, ◌+◌, List, [], ◌∷◌, ◌++◌, length}
use Rattle.sha2.specs.Sha256.{sha256}
use Rattle.rm_blocks.specs.File.{File}
use Rattle.rm_evidence.specs.{Gathered.{placed_piece}, Names.{site_name}}
use Rattle.rm_machine.specs.{Effect.{a_log, a_piece}, Saved.{spelling_of}, Saving.{SitePart}, State.{ledger, counted, online}}
use Rattle.rm_machine.specs.declared.state.State.{State}
use Rattle.rm_session.specs.declared.site_parts.Parts.{Parts}

-- none yet, where this is the next id
abbrev pub no_parts : ℕ → Parts
no_parts next = record { next = next; entries = []; objects = [] }

-- an object of these bytes more, for this datafile or thread, which takes the next id
abbrev pub with_object : ℕ → ℕ → List ℕ → Parts → Parts
with_object file thread bytes x =
    record {
      next = x.next + 1;
      entries = x.entries ++ record { id = x.next; file = file; thread = thread; size = length bytes; sha = sha256 bytes } ∷ [];
      objects = x.objects ++ record { name = site_name x.next; bytes = bytes } ∷ [];
    }

-- one part more
abbrev pub with_part : SitePart → Parts → Parts
with_part p x = with_object p.file p.thread (spelling_of p.artefact) x

-- these parts more, one after another
abbrev pub with_parts : List SitePart → Parts → Parts
with_parts [] x = x
with_parts (p ∷ ps) x = with_parts ps (with_part p x)

-- the part of a datafile in place, and that of a thread
abbrev pub part_of_file : State → ℕ → File → SitePart
part_of_file s f x = record { file = f; thread = 0; artefact = a_piece (placed_piece (ledger s).base.dbid (counted s x)) }

abbrev pub part_of_thread : State → ℕ → SitePart
part_of_thread s t = record { file = 0; thread = t; artefact = a_log (online s t) }
