-- A log that tells further.
use Rattle.std.proofs.Common.{◌≡◌, ◌<◌, ◌≤◌, ◌++◌, ◌⊎◌, ◌^◌, inl, inr, [], ◌∷◌, sym, subst, arith, length, length-append, All, AllPairs}
use Rattle.std.proofs.lemmas.List.Elements.{All-contains, All-push, All-weaker}
use Rattle.rm_base.{specs.Numbers.{last_scn}, proofs.{Members.{none-in, first-or-rest}, Lists.{pairs-append}}}
use Rattle.rm_redo.specs.{LogFormat.{IsLogFile, IsLogRecord}, Logs.{IsBefore}, declared.log_file.LogFile.{LogFile}}
use Rattle.rm_redo.specs.declared.online.LogRecord.{LogRecord}

-- r stands behind all that the log tells
pub record IsPushed (l m : LogFile) (r : LogRecord) : Type 0 where
  pub records : m.records ≡ l.records ++ r ∷ []
  pub room : length l.records < 65536
  pub after : l.next ≤ r.scn
  pub is : IsLogRecord m.first m.next r

record-further : (l m : LogFile) → m.first ≡ l.first → l.next ≤ m.next → (r : LogRecord) → IsLogRecord l.first l.next r → IsLogRecord m.first m.next r
record-further l m first next r is =
    record { scn = (omega (arith, first, is.scn.0), omega (arith, is.scn.1, next)); file = is.file; block = is.block; content = is.content }

single : (r : LogRecord) → AllPairs IsBefore (r ∷ [])
single r i j d less inside = absurd (omega (arith, less, inside))

pub log-further : (l m : LogFile) → IsLogFile l → m.dbid ≡ l.dbid → m.inc ≡ l.inc → m.thread ≡ l.thread → m.sequence ≡ l.sequence → m.first ≡ l.first → l.next ≤ m.next → m.next ≤ last_scn
    → (m.records ≡ l.records) ⊎ ((r : LogRecord) × IsPushed l m r) → IsLogFile m
log-further l m is dbid inc thread sequence first next last records =
    record {
      dbid = subst (λ x. (1 ≤ x) × (x < 2 ^ 32)) (sym dbid) is.dbid;
      inc = subst (λ x. (1 ≤ x) × (x < 2 ^ 32)) (sym inc) is.inc;
      thread = subst (λ x. (1 ≤ x) × (x ≤ 4)) (sym thread) is.thread;
      sequence = subst (λ x. (1 ≤ x) × (x < 2 ^ 32)) (sym sequence) is.sequence;
      range = (omega (arith, first, is.range.0), omega (arith, first, is.range.1, next), last);
      few = elim records [
        | inl same ↦ subst (λ x. length x ≤ 65536) (sym same) is.few
        | inr more ↦ let room = more.1.room in subst (λ x. length x ≤ 65536) (sym more.1.records) (omega (arith, room, length-append l.records (more.0 ∷ [])))
      ];
      ascend = elim records [
        | inl same ↦ subst (AllPairs IsBefore) (sym same) is.ascend
        | inr more ↦ subst (AllPairs IsBefore) (sym more.1.records) (pairs-append IsBefore l.records (more.0 ∷ []) is.ascend (single more.0) (λ x y has other.
            let under : x.scn < l.next = (All-contains (IsLogRecord l.first l.next) l.records x is.records has).scn.1 in
            elim (first-or-rest more.0 [] y other) [
              | inl same ↦ inl (subst (λ z. x.scn < z.scn) same (omega (arith, under, more.1.after)))
              | inr none ↦ absurd (none-in y none)
            ]))
      ];
      records = elim records [
        | inl same ↦ subst (All (IsLogRecord m.first m.next)) (sym same) (All-weaker (IsLogRecord l.first l.next) (IsLogRecord m.first m.next) (record-further l m first next) l.records is.records)
        | inr more ↦ subst (All (IsLogRecord m.first m.next)) (sym more.1.records)
            (All-push (IsLogRecord m.first m.next) l.records more.0 (All-weaker (IsLogRecord l.first l.next) (IsLogRecord m.first m.next) (record-further l m first next) l.records is.records) more.1.is)
      ];
    }
