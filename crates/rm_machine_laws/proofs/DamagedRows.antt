-- Rows in place but for those of damaged blocks.
use Rattle.std.proofs.{Common.{◌≡◌, ℕ, List, true, false, ap, sym, subst}, lemmas.List.Elements.{All-weaker}}
use Rattle.rm_base.specs.declared.block.{BlockId.{BlockId}, Change.{Change}}
use Rattle.rm_blocks.specs.File.{File, base_of}
use Rattle.rm_history.specs.{Agrees.{BaseAgrees}, State.{state}, declared.world.World.{World}}
use Rattle.rm_machine.specs.{Damage.{has_block, has_file}, Machine.{RowsAre, SoundRowsAre}, Sound.{IsSound}}
use Rattle.rm_machine.{specs.{State.{counted, current_of, now_of, world}, declared.state.State.{State}}, proofs.LosingFits.{no-block}}
use Rattle.rm_machine.proofs.Places.{counted-open}
use Rattle.rm_machine_laws.proofs.Opened.{rows-agree}

-- rows that are all states are so but for damaged blocks
pub but-damaged : (xs : List BlockId) (w : World) (h : List Change) (i at : ℕ) (x : File) → RowsAre w h i at x → SoundRowsAre xs w h i at x
but-damaged xs w h i at x rows =
    All-weaker (λ r. r ≡ state w h i at x.file r.block) (λ r. has_block xs x.file r.block ≡ false → r ≡ state w h i at x.file r.block) (λ r is clear. is) x.rows rows

-- and all are, where no block of the datafile is damaged
pub none-damaged : (xs : List BlockId) (w : World) (h : List Change) (i at : ℕ) (x : File) → has_file xs x.file ≡ false → SoundRowsAre xs w h i at x → RowsAre w h i at x
none-damaged xs w h i at x none rows =
    All-weaker (λ r. has_block xs x.file r.block ≡ false → r ≡ state w h i at x.file r.block) (λ r. r ≡ state w h i at x.file r.block) (λ r is. is (no-block xs x.file r.block none)) x.rows rows

-- so it agrees, in an open database
pub sound-agrees : (q : State) (h : List Change) (x : File) → q.instance.is_open ≡ true → SoundRowsAre q.instance.damaged (world q) h (current_of q) (now_of q) x → has_file q.instance.damaged x.file ≡ false → BaseAgrees (world q) h (base_of (counted q x))
sound-agrees q h x opened rows none =
    subst (λ y. BaseAgrees (world q) h (base_of y)) (sym (counted-open q x opened))
    (rows-agree (world q) h (current_of q) (now_of q) x (none-damaged q.instance.damaged (world q) h (current_of q) (now_of q) x none rows))

-- a database that is not open has no damaged block
pub closed-file : (s : State) (f : ℕ) → IsSound s → s.instance.is_open ≡ false → has_file s.instance.damaged f ≡ false
closed-file s f sound closed = ap (λ xs. has_file xs f) (sound.damaged.idle closed)
