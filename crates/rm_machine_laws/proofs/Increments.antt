-- What an increment for a standby holds: the states at `now` of the datafiles of the current path, those at or above its SCN.
use Rattle.std.proofs.Common.{◌≡◌, ◌+◌, ◌-◌, ◌∙◌, ℕ, zero, suc, List, [], ◌∷◌, Some, Bool, true, false, cond, refl, ap, sym, subst, arith, map, slice_get, Contains}
use Rattle.std.proofs.lemmas.{Bool.{and_from}, List.Elements.{All-contains, All-contains_itself, All-map}}
use Rattle.rm_base.{specs.declared.block.{Change.{Change}, Row.{Row}}, proofs.{Lists.{map_from, map_to}, Members.{behind, in-front}}}
use Rattle.rm_base.proofs.Slots.{all-get}
use Rattle.rm_apply.proofs.States.{rows-are}
use Rattle.rm_blocks.specs.File.{File}
use Rattle.rm_history.specs.{State.{state, states}, World.{creation_of, exists, file_of}, declared.world.Datafile.{Datafile}}
use Rattle.rm_history.{specs.declared.world.World.{World}, proofs.Worlds.{file-there}}
use Rattle.rm_piece.{specs.{Filling.{risen}, Rows.{from_on}, declared.set.SetFile.{SetFile}}, proofs.Risen.{states-same}}
use Rattle.rm_standby.specs.Standby.{HoldsSince, IsTaken as IsHeld}
use Rattle.rm_lang_statement.specs.declared.command.BackupForm.{BackupForm}
use Rattle.rm_machine.specs.{Backup.{is_taken, rows_in, taken_from}, Damage.{has_file}, Machine.{HistoryFits, RowsAre}}
use Rattle.rm_machine.specs.{Roll.{increment, of_all, roll_member, rolled_files}, Sound.{IsSound}}
use Rattle.rm_machine.{specs.{State.{current_of, ledger, now_of, world}, declared.state.State.{State}}, proofs.Backups.{IsTaken}}
use Rattle.rm_machine.proofs.{MembersRead.{creation-by}, Numbers.{file-at}, PiecesRead.{blocks-by}}
use Rattle.rm_machine.proofs.Rolling.{CanRoll, file-number, block-at, rows-many, rows-placed}
use Rattle.rm_machine_laws.proofs.{BackingUp.{taken-clean}, DamagedRows.{none-damaged}}

-- a datafile that is taken is one of those that are backed up
front-by : (t : Bool) (f n : ℕ) (rest : List ℕ) → t ≡ true → f ≡ n → Contains (cond t (f ∷ rest) rest) n
front-by true f n rest on same = subst (λ k. Contains (f ∷ rest) k) same (in-front f rest)
front-by false f n rest on same = absurd (cc)

rest-by : (t : Bool) (f n : ℕ) (rest : List ℕ) → Contains rest n → Contains (cond t (f ∷ rest) rest) n
rest-by true f n rest has = behind f rest n has
rest-by false f n rest has = has

taken-at : (s : State) (b : BackupForm) (f : ℕ) (ds : List Datafile) (k n : ℕ) (d : Datafile) → slice_get ds k ≡ Some d → f + k ≡ n → is_taken s b n d ≡ true → Contains (taken_from s b f ds) n
taken-at s b f [] k n d is number on = absurd (cc)
taken-at s b f (e ∷ ds) zero n d is number on =
    let same : f ≡ n = omega (arith, number) in
    let first : e ≡ d = cc is in
    front-by (is_taken s b f e) f n (taken_from s b (f + 1) ds) ((λ i. is_taken s b (same i) (first i)) ∙ on) same
taken-at s b f (e ∷ ds) (suc k) n d is number on =
    rest-by (is_taken s b f e) f n (taken_from s b (f + 1) ds) (taken-at s b (f + 1) ds k n d is (omega (arith, number)) on)

rolled-has : (s : State) (f : ℕ) (d : Datafile) → file_of (world s) f ≡ Some d → exists (world s) (current_of s) (now_of s) d ≡ true → Contains (rolled_files s) f
rolled-has s f d is here =
    let there = file-there (world s) f d is in
    taken-at s of_all 1 (ledger s).files (f - 1) f d there.1 (omega (arith, there.0)) (and_from (exists (world s) (current_of s) (now_of s) d) true here refl)

module _ (s : State) (h : List Change) (from : ℕ) (sound : IsSound s) (keeps : HistoryFits s h) (can : CanRoll s from) where
  abbrev w : World
  w = world s

  abbrev inc : ℕ
  inc = current_of s

  abbrev now : ℕ
  now = now_of s

  -- One of its datafiles
  module _ (f : ℕ) (has : Contains (rolled_files s) f) where
    is : IsTaken s f
    is = All-contains (IsTaken s) (rolled_files s) f can.taken has

    abbrev x : File
    x = is.file

    number : x.file ≡ f
    number = file-number s f sound can.opened is

    -- its rows in place are its states
    rows : RowsAre w h inc now x
    rows = none-damaged s.instance.damaged w h inc now x (ap (has_file s.instance.damaged) number ∙ taken-clean s of_all can.clean f has) (keeps.in_open can.opened f x is.stands)

    row-is : (r : Row) → Contains (rows_in s f) r → state w h inc now f r.block ≡ r
    row-is r held =
        let stood : Contains x.rows r = subst (λ rs. Contains rs r) (rows-placed s f sound can.opened is) held in
        let so : r ≡ state w h inc now x.file r.block = All-contains (λ (y : Row). y ≡ state w h inc now x.file y.block) x.rows r rows stood in
        ap (λ n. state w h inc now n r.block) (sym number) ∙ sym so

    states-are : rows_in s f ≡ states w h inc now f is.datafile.blocks
    states-are = rows-are (state w h inc now f) 0 is.datafile.blocks (rows_in s f) (rows-many s f sound can.opened is) (λ k r got.
        let block : 0 + k ≡ r.block = omega (arith, block-at s f sound can.opened is k r got) in
        ap (state w h inc now f) block ∙ row-is r (held-at (rows_in s f) k r got))
      where
        held-at : (rs : List Row) (k : ℕ) (r : Row) → slice_get rs k ≡ Some r → Contains rs r
        held-at rs k r got = all-get (Contains rs) rs k r got (λ j d inside. All-contains_itself rs j d inside)

    risen-are : map (risen (creation_of w f)) (rows_in s f) ≡ states w h inc now f is.datafile.blocks
    risen-are = states-same w h inc f now (rows_in s f) keeps.history (λ r held. record { position = now; after = omega arith; is = row-is r held }) ∙ states-are

    held-of : IsHeld w h inc now (from_on from) (roll_member s from f)
    held-of = record {
      datafile = is.datafile;
      is = (let next : 1 + (f - 1) ≡ f = omega (arith, is.some) in subst (λ n. file_of w n ≡ Some is.datafile) next (file-at w (f - 1) is.datafile is.is));
      exists = is.here;
      creation = creation-by s f is.datafile is.some is.is;
      blocks = blocks-by s f is.datafile is.some is.is;
      rows = ap (from_on from) risen-are;
    }

  pub holds-since : HoldsSince w h from (increment s from)
  holds-since = record {
    holds = record {
      each = λ f d is here. let has = rolled-has s f d is here in record { member = roll_member s from f; held = map_to (roll_member s from) (rolled_files s) f has; is = refl };
      taken = λ m held.
          let source = map_from (roll_member s from) (rolled_files s) m held in
          subst (IsHeld w h inc now (from_on from)) source.is (held-of source.item source.held);
    };
    begins = All-map (λ (m : SetFile). m.piece.from ≡ from) (roll_member s from) (rolled_files s) (λ k d inside. refl);
  }
