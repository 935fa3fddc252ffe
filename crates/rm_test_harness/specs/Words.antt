-- The words of the tables.
use Rattle.std.specs.Prelude.{ℕ, List, codes}
use Rattle.rm_base.specs.declared.kinds.{Kind.{Kind, TheVariants.{Full, Level0, Level1, Place}}, Status.{Status}}
use Rattle.rm_base.specs.declared.kinds.Status.TheVariants.{Available, Unavailable, Expired}

-- the word of a kind
abbrev pub kind_word : Kind → List ℕ
kind_word Full = codes "full"
kind_word Level0 = codes "level_0"
kind_word Level1 = codes "level_1"
kind_word Place = codes "place"

-- the word of a status
abbrev pub status_word : Status → List ℕ
status_word Available = codes "available"
status_word Unavailable = codes "unavailable"
status_word Expired = codes "expired"
