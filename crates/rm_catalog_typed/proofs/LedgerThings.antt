-- The base facts, the incarnations, the datafiles, the marks and the switches of a ledger obey their rules.
use Rattle.std.specs.Prelude.{IsSome, IsSomeAnd}
use Rattle.std.proofs.Common.{◌≡◌, ◌∙◌, ℕ, ◌+◌, ◌-◌, ◌<◌, ◌≤◌, length, get_or, slice_get, Option, Some, refl, ap, sym, subst, arith}
use Rattle.std.proofs.lemmas.Option.{get_or_from_slice_get, slice_get_within}
use Rattle.rm_base.{specs.declared.block.Mark.{Mark}, proofs.Slots.{all-get}}
use Rattle.rm_history.specs.{Tree.{IsThere, parent_of}, declared.world.Datafile.{Datafile}}
use Rattle.rm_catalog.specs.Keys.{place, at, incarnation, mark, IsThere as HasKey}
use Rattle.rm_catalog.specs.Facts.{BaseRule, IncarnationRule, BranchRule, BeginsOn, DatafileRule, IsCreatedOn, MarkRule, IsWithin}
use Rattle.rm_catalog.specs.{Switches.{IsAt, SwitchRule}, declared.record.{IncarnationEntry.{IncarnationEntry}, MarkEntry.{MarkEntry}}}
use Rattle.rm_catalog.specs.declared.record.Record.{Record}
use Rattle.rm_catalog_typed.specs.{Ledger.{Ledger, ledger_records}, LedgerFacts.{IsLedger, IsCreated, IsMark}}
use Rattle.rm_catalog_typed.specs.declared.thread_switch.ThreadSwitch.{ThreadSwitch}
use Rattle.rm_catalog_typed.proofs.Lookups.{entry_of, datafile_entry, mark_entry, switch_entry, item-at, incarnation-there, incarnation-found, datafile-at, mark-found, no-switch, switch-at}
use Rattle.rm_catalog_typed.proofs.{Paths.{path-is}, Turns.{Tells, rule-from}, Counted.{blocks-few, marked}}

-- what is true of an incarnation that is there is true of its record
pub on-incarnation : (l : Ledger) (i : ℕ) (P : IncarnationEntry → Type 0) → IsLedger l → IsThere l.tree i → P (entry_of l.tree i) → IsSomeAnd (incarnation i (ledger_records l)) P
on-incarnation l i P is there holds = subst (λ (o : Option IncarnationEntry). IsSomeAnd o P) (sym (incarnation-found l i is there)) holds

pub base-rule : (l : Ledger) → IsLedger l → BaseRule (ledger_records l) l.base
base-rule l is = record {
  dbid = is.base.dbid;
  threads = is.base.threads;
  current = incarnation-there l l.base.current is is.current;
  next_id = is.base.next_id.0;
  moment = is.base.moment;
  policy = is.base.policy;
  parallelism = is.base.parallelism;
}

branch-rule : (l : Ledger) (i : ℕ) → IsLedger l → 1 < i → i ≤ length l.tree → BranchRule (ledger_records l) (entry_of l.tree i)
branch-rule l i is later high =
    let b = is.incarnations.branches i later high in
    let under = b.parent.1 in
    record {
      no_gap = incarnation-there l (i - 1) is (omega arith, omega arith);
      below = b.parent.1;
      parent = on-incarnation l (parent_of l.tree i) (BeginsOn (entry_of l.tree i)) is (b.parent.0, omega arith) (record { reset = b.reset; end = b.end });
    }

pub incarnation-rule : (l : Ledger) (i : ℕ) → IsLedger l → IsThere l.tree i → IncarnationRule (ledger_records l) (entry_of l.tree i)
incarnation-rule l i is there =
    let few = is.incarnations.few in
    let high = there.1 in
    record {
      number = (there.0, omega arith);
      origin = record {
        first = λ one. ap (parent_of l.tree) one ∙ is.incarnations.first;
        branch = λ later. branch-rule l i is later there.1;
      };
      range = is.incarnations.ranges i there;
      mark = marked l i (is.marks.some i there);
    }

datafile-before : (l : Ledger) (k : ℕ) → IsLedger l → k < length l.files → 1 < 1 + k → HasKey 3 ((1 + k) - 1) (ledger_records l)
datafile-before l k is lt later =
    let before = item-at l.files (k - 1) (omega arith) in
    let number : 1 + (k - 1) ≡ (1 + k) - 1 = omega arith in
    let found : at (place 3 ((1 + k) - 1)) (ledger_records l) ≡ Some _ = ap (λ (n : ℕ). at (place 3 n) (ledger_records l)) (sym number) ∙ datafile-at l (k - 1) before.0 is before.1 in
    subst (λ (o : Option Record). IsSome o) (sym found) refl

pub datafile-rule : (l : Ledger) (k : ℕ) (d : Datafile) → IsLedger l → slice_get l.files k ≡ Some d → DatafileRule (ledger_records l) (datafile_entry (1 + k) d)
datafile-rule l k d is there =
    let c = all-get (IsCreated l.tree) l.files k d there is.datafiles.each in
    let lt = slice_get_within l.files k d there in
    let few = is.datafiles.few in
    let room = is.datafiles.room in
    let sum = blocks-few l (1 + k) in
    record {
      number = (omega arith, omega arith);
      no_gap = record { no_gap = datafile-before l k is lt };
      creation = on-incarnation l d.inc (IsCreatedOn (datafile_entry (1 + k) d)) is c.there (record { reset = c.creation.0; end = c.creation.1 });
      blocks = c.blocks;
      room = record { blocks = omega arith };
    }

mark-before : (l : Ledger) (k : ℕ) (m : Mark) → IsLedger l → slice_get l.marks k ≡ Some m → 1 < 1 + k → IsSomeAnd (mark ((1 + k) - 1) (ledger_records l)) (λ p. p.moment ≤ m.moment)
mark-before l k m is there later =
    let lt = slice_get_within l.marks k m there in
    let before = item-at l.marks (k - 1) (omega arith) in
    let number : 1 + (k - 1) ≡ (1 + k) - 1 = omega arith in
    let found = ap (λ (n : ℕ). mark n (ledger_records l)) (sym number) ∙ mark-found l (k - 1) before.0 is before.1 in
    let up : (get_or l.marks (k - 1) m).moment ≤ (get_or l.marks k m).moment = is.marks.rise (k - 1) k m (omega arith) lt in
    let low = ap (λ (n : Mark). n.moment) (get_or_from_slice_get l.marks (k - 1) before.0 m before.1) in
    let high = ap (λ (n : Mark). n.moment) (get_or_from_slice_get l.marks k m m there) in
    subst (λ (o : Option MarkEntry). IsSomeAnd o (λ p. p.moment ≤ m.moment)) (sym found) (omega arith)

pub mark-rule : (l : Ledger) (k : ℕ) (m : Mark) → IsLedger l → slice_get l.marks k ≡ Some m → MarkRule (ledger_records l) (mark_entry (1 + k) m)
mark-rule l k m is there =
    let f = all-get (IsMark l.tree l.base.moment) l.marks k m there is.marks.each in
    record {
      number = omega arith;
      before = mark-before l k m is there;
      scn = on-incarnation l m.inc (IsWithin m.scn) is f.there (record { reset = f.scn.0; end = f.scn.1 });
      moment = f.moment;
    }

-- a switch
pub switch-rule : (l : Ledger) (k : ℕ) (x : ThreadSwitch) → IsLedger l → slice_get l.switches k ≡ Some x → SwitchRule (ledger_records l) (switch_entry (1 + k) x)
switch-rule l k x is there =
    let next = is.switches k x there in
    let tells : Tells (ledger_records l) l.tree l.base.threads l.switches = record { began = refl; paths = λ i g has. path-is l i g is has; found = λ j y at. switch-at l j y is at } in
    rule-from (ledger_records l) l.tree l.base.threads l.switches tells k x there next.there (no-switch l)
    (on-incarnation l x.inc (IsAt (switch_entry (1 + k) x)) is next.there (record { reset = next.range.0; end = next.range.1 })) next
