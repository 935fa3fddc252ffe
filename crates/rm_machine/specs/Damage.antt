-- The blocks in place that are damaged, and what they take away.
use Rattle.std.specs.Prelude.{ℕ, ◌≡◌, ◌+◌, ◌<◌, ◌==◌, ◌&&◌, ◌||◌, nat_lt, if◌then◌else◌, Bool, false, Option, Some, None, IsSome, List, [], ◌∷◌, All, length}
use Rattle.std.specs.List.{list_any}
use Rattle.rm_base.specs.{BlockOrder.{AscendByBlock}, declared.block.BlockId.{BlockId}}
use Rattle.rm_blocks.specs.File.{File}
use Rattle.rm_machine.specs.{State.{on_path, placed}, declared.state.State.{State}}

-- block b of datafile f is on the list
abbrev pub has_block : List BlockId → ℕ → ℕ → Bool
has_block xs f b = list_any (λ x. (x.file == f) && (x.block == b)) xs

-- a block of datafile f is
abbrev pub has_file : List BlockId → ℕ → Bool
has_file xs f = list_any (λ x. x.file == f) xs

-- by datafile, and then by number
abbrev pub is_before : BlockId → BlockId → Bool
is_before x y = nat_lt x.file y.file || ((x.file == y.file) && nat_lt x.block y.block)

-- the list with the block at its place, once
abbrev pub with_block : BlockId → List BlockId → List BlockId
with_block x [] = x ∷ []
with_block x (y ∷ ys) =
    if is_before x y then x ∷ y ∷ ys
    else if (x.file == y.file) && (x.block == y.block) then y ∷ ys
    else y ∷ with_block x ys

-- what stands in place of datafiles f, f + 1 and so on, but for those of which a block is on the list
abbrev pub undamaged : List BlockId → ℕ → List (Option File) → List (Option File)
undamaged xs f [] = []
undamaged xs f (x ∷ place) = (if has_file xs f then None else x) ∷ undamaged xs (f + 1) place

-- the database where each datafile of which a block is damaged is lost
abbrev pub without_damaged : State → State
without_damaged s =
    record s {
      instance = record s.instance {
        place = undamaged s.instance.damaged 1 s.instance.place;
        damaged = [];
      };
    }

-- it is a block of a datafile in place, which is on the current path
pub record IsInPlace (s : State) (x : BlockId) : Type 0 where
  pub some : 0 < x.file
  pub here : IsSome (on_path s x.file)
  pub file : File
  pub is : placed s x.file ≡ Some file
  pub block : x.block < length file.rows

-- only an open database has damaged blocks, each once and of a datafile in place on the current path
pub record AreDamaged (s : State) : Type 0 where
  pub idle : s.instance.is_open ≡ false → s.instance.damaged ≡ []
  pub ascend : AscendByBlock s.instance.damaged
  pub each : All (IsInPlace s) s.instance.damaged
