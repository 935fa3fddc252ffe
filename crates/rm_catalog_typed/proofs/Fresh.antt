-- A new database has a ledger.
use Rattle.std.{specs.List.{AllPairs}, proofs.Common.{◌≡◌, ℕ, ◌<◌, ◌≤◌, [], ◌∷◌, refl, subst, sym, arith}}
use Rattle.std.proofs.lemmas.List.Elements.{All-nil, All-cons}
use Rattle.rm_base.{specs.{Numbers.{last_scn, last_moment}, declared.block.Mark.{Mark}}, proofs.Members.{none-in, in-front}}
use Rattle.rm_catalog.specs.declared.record.{LogEntry.{LogEntry}, PieceEntry.{PieceEntry}, SetEntry.{SetEntry}}
use Rattle.rm_history.specs.{Tree.{IsThere, reset_of, end_of, branched}, declared.tree.Incarnation.{Incarnation}}
use Rattle.rm_catalog_typed.specs.LedgerFacts.{IsLedger, AreIncarnations, IsCreated, IsLogEntry, IsPieceEntry, IsSetEntry, AreMarks, IsMark}
use Rattle.rm_catalog_typed.specs.Fresh.{fresh}

-- one incarnation alone: no other is there
pub only_first : (n : Incarnation) (i : ℕ) → IsThere (n ∷ []) i → i ≡ 1
only_first n i there = let up = there.0 in let inside = there.1 in omega arith

-- no two of one
pairs_one : {A : Type 0} (R : A → A → Type 0) (x : A) → AllPairs R (x ∷ [])
pairs_one R x i j d less inside = absurd (omega arith)

pairs_none : {A : Type 0} (R : A → A → Type 0) → AllPairs R []
pairs_none R i j d less inside = absurd (omega arith)

pub one_incarnation : (n : Incarnation) → n.parent ≡ 0 → 1 ≤ n.reset → n.reset ≤ n.end → n.end ≤ last_scn → AreIncarnations (n ∷ [])
one_incarnation n none some order most = record {
  some = omega arith;
  few = omega arith;
  first = none;
  branches = λ i later inside. absurd (omega arith);
  ranges = λ i there. subst (λ (k : ℕ). (1 ≤ reset_of (n ∷ []) k) × (reset_of (n ∷ []) k ≤ end_of (n ∷ []) k) × (end_of (n ∷ []) k ≤ last_scn)) (sym (only_first n i there)) (some, order, most);
}

-- with one mark at an SCN of its own
pub one_mark : (n : Incarnation) (scn moment : ℕ) → n.reset ≤ scn → scn ≤ n.end → AreMarks (n ∷ []) moment (record { moment = moment; inc = 1; scn = scn } ∷ [])
one_mark n scn moment low high =
    let m : Mark = record { moment = moment; inc = 1; scn = scn } in
    let tree = n ∷ [] in
    record {
      each = All-cons (IsMark tree moment) m [] (record { there = (omega arith, omega arith); scn = (low, high); moment = omega arith }) (All-nil (IsMark tree moment));
      rise = pairs_one (λ (a b : Mark). a.moment ≤ b.moment) m;
      some = λ i there. (m, in-front m [], sym (only_first n i there));
    }

pub fresh_is_ledger : (dbid threads scn moment : ℕ) → 1 ≤ dbid → 1 ≤ threads → threads ≤ 4 → 1 ≤ scn → scn ≤ last_scn → moment ≤ last_moment → IsLedger (fresh dbid threads scn moment)
fresh_is_ledger dbid threads scn moment one some four from most late =
    let tree = branched 0 scn ∷ [] in
    record {
      base = record { dbid = one; threads = (some, four); next_id = (omega arith, omega arith); moment = late; policy = (omega arith, omega arith); parallelism = (omega arith, omega arith) };
      current = (omega arith, omega arith);
      incarnations = one_incarnation (branched 0 scn) refl from (omega arith) most;
      datafiles = record { each = All-nil (IsCreated tree); few = omega arith; room = omega arith };
      logs = All-nil (IsLogEntry tree);
      pieces = All-nil (IsPieceEntry tree []);
      sets = All-nil (IsSetEntry tree []);
      ids = record {
        logs = All-nil (λ (l : LogEntry). (1 ≤ l.id) × (l.id < 1));
        pieces = All-nil (λ (p : PieceEntry). (1 ≤ p.id) × (p.id < 1));
        sets = All-nil (λ (e : SetEntry). (1 ≤ e.id) × (e.id < 1));
        logs_ascend = pairs_none (λ (l k : LogEntry). l.id < k.id);
        pieces_ascend = pairs_none (λ (p q : PieceEntry). p.id < q.id);
        sets_ascend = pairs_none (λ (e d : SetEntry). e.id < d.id);
        apart = λ l p has. absurd (none-in l has);
        logs_apart = λ l e has. absurd (none-in l has);
        pieces_apart = λ p e has. absurd (none-in p has);
      };
      marks = one_mark (branched 0 scn) scn moment (omega arith) (omega arith);
      switches = λ k x is. absurd cc;
      few = omega arith;
    }
