-- A live database stays sound, and its threads stay there.
use Rattle.std.specs.Option.{option_map_or}
use Rattle.std.proofs.Common.{Ok, Err, ◌≡◌, ◌≢◌, ◌<◌, ◌≤◌, ◌+◌, ◌-◌, ◌∙◌, ◌==◌, ℕ, List, [], ◌∷◌, Option, Some, None, Bool, true, false, true≢false, cond, refl, sym, subst, arith, length, All, slice_get, slice_set}
use Rattle.std.proofs.lemmas.{Bool.{eq-eqb}, List.Elements.{All-push, All-set, All-weaker, All-get_or}}
use Rattle.std.proofs.lemmas.Option.{get_or_from_slice_get, slice_get_within}
use Rattle.rm_base.specs.{Numbers.{last_scn}, declared.block.{Block.{Block}, Change.{Change}, Row.{Row}}}
use Rattle.rm_blocks.specs.File.{File}
use Rattle.rm_redo.specs.{Logs.{Logs}, Online.{IsThread, IsLost, thread_records, record_of, with_change, with_record}}
use Rattle.rm_redo.specs.declared.online.{LogRecord.{LogRecord}, ThreadLog.{ThreadLog}}
use Rattle.rm_redo.proofs.Logs.{IsThread-with_change, IsLost-with_change, inc-with_change}
use Rattle.rm_live.specs.Parts.{Parts, IsSound, refusal_by, refusal_of, row_at, with_put}
use Rattle.rm_live.specs.{History.{IsRight, IsLegal, after, fold_of, with_write}, declared.history.Answer.{Answer}}
use Rattle.rm_live.specs.declared.history.{Answer.TheVariants.{Found, Mended, Wrote}, Call.{Call, TheVariants.{Mend, Read, Write}}}
use Rattle.rm_live.{specs.declared.history.{Event.{Event}, LiveFault.TheVariants.{Full, LastScn}}, proofs.Files.{All-with_put}}

not-eq : (m n : ℕ) → (m == n) ≡ false → m ≢ n
not-eq m n is same = true≢false (sym (eq-eqb m n same) ∙ is)

room-by : (full last : Bool) → cond full (Some Full) (cond last (Some LastScn) None) ≡ None → (full ≡ false) × (last ≡ false)
room-by false false is = (refl, refl)
room-by false true is = absurd (cc is)
room-by true last is = absurd (cc is)

room-for : (row : Option Row) (records now : ℕ) → refusal_by row records now ≡ None → (records ≢ 65536) × (now ≢ last_scn)
room-for None records now is = absurd (cc is)
room-for (Some row) records now is =
    let both = room-by (records == 65536) (now == last_scn) is in
    (not-eq records 65536 both.0, not-eq now last_scn both.1)

-- a write that is not refused finds room in its log, and an SCN below the last
pub allowed : (p : Parts) (t f b : ℕ) → refusal_of p t f b ≡ None → (length (thread_records p.logs t) ≢ 65536) × (p.now ≢ last_scn)
allowed p t f b is = room-for (row_at p.files f b) (length (thread_records p.logs t)) p.now is

holds-at : {X : Type 0} (P : X → Type 0) (xs : List X) (k : ℕ) (x : X) → slice_get xs k ≡ Some x → All P xs → P x
holds-at P xs k x is all = subst P (get_or_from_slice_get xs k x x is) (All-get_or P xs k x (slice_get_within xs k x is) all)

all-by : (P : ThreadLog → Type 0) (logs : Logs) (c : Change) (o : Option ThreadLog) → slice_get logs.threads (c.thread - 1) ≡ o → ((l : ThreadLog) → P l → P (with_record (record_of c) l)) → All P logs.threads
    → All P (option_map_or (λ l. record logs { threads = slice_set logs.threads (c.thread - 1) (with_record (record_of c) l) }) o logs).threads
all-by P logs c None is keeps all = all
all-by P logs c (Some l) is keeps all =
    All-set P logs.threads (c.thread - 1) (with_record (record_of c) l) (keeps l (holds-at P logs.threads (c.thread - 1) l is all)) all

-- what is true of each log, and of one with the record more, is true of all after the change
All-with_change : (P : ThreadLog → Type 0) (logs : Logs) (c : Change) → ((l : ThreadLog) → P l → P (with_record (record_of c) l)) → All P logs.threads → All P (with_change logs c).threads
All-with_change P logs c keeps all = all-by P logs c (slice_get logs.threads (c.thread - 1)) refl keeps all

row-below : (s : ℕ) (rows : List Row) (b : ℕ) (new : Row) → new.version < s → All (λ r. r.version < s) rows → All (λ r. r.version < s) (slice_set rows b new)
row-below s rows b new low all = All-set (λ (r : Row). r.version < s) rows b new low all

-- a write below the last SCN keeps the database sound
write-sound : (p : Parts) (t f b : ℕ) (content : Block) → IsSound p → p.now ≢ last_scn → IsSound (with_write p t f b content p.now)
write-sound p t f b content sound room =
    let c : Change = record { inc = p.inc; thread = t; scn = p.now; file = f; block = b; content = content } in
    let s = p.now + 1 in
    let first = All-weaker (λ (l : ThreadLog). l.first ≤ p.now) (λ (l : ThreadLog). l.first ≤ s) (λ l le. omega (arith, le)) p.logs.threads sound.first in
    let records = All-weaker (λ (l : ThreadLog). All (λ (r : LogRecord). r.scn < p.now) l.records) (λ (l : ThreadLog). All (λ (r : LogRecord). r.scn < s) l.records) (λ l all. All-weaker (λ (r : LogRecord). r.scn < p.now) (λ (r : LogRecord). r.scn < s) (λ r lt. omega (arith, lt)) l.records all) p.logs.threads sound.records in
    let rows = All-weaker (λ (x : File). All (λ (r : Row). r.version < p.now) x.rows) (λ (x : File). All (λ (r : Row). r.version < s) x.rows) (λ x all. All-weaker (λ (r : Row). r.version < p.now) (λ (r : Row). r.version < s) (λ r lt. omega (arith, lt)) x.rows all) p.files sound.rows in
    record {
      inc = inc-with_change p.logs c ∙ sound.inc;
      begun = omega (arith, sound.begun);
      last = omega (arith, sound.last, room);
      first = All-with_change (λ (l : ThreadLog). l.first ≤ s) p.logs c (λ l le. le) first;
      rows = All-with_put (λ (x : File). All (λ (r : Row). r.version < s) x.rows) p.files f (record { block = b; version = p.now; content = content }) (λ x all. row-below s x.rows b (record { block = b; version = p.now; content = content }) (omega arith) all) rows;
      records = All-with_change (λ (l : ThreadLog). All (λ (r : LogRecord). r.scn < s) l.records) p.logs c (λ l all. All-push (λ (r : LogRecord). r.scn < s) l.records (record_of c) all (omega arith)) records;
    }

-- so does a row that is older than the next write
mend-sound : (p : Parts) (f : ℕ) (row : Row) → IsSound p → row.version < p.now → IsSound (record p { files = with_put p.files f row })
mend-sound p f row sound older = record {
  inc = sound.inc;
  begun = sound.begun;
  last = sound.last;
  first = sound.first;
  rows = All-with_put (λ (x : File). All (λ (r : Row). r.version < p.now) x.rows) p.files f row (λ x all. row-below p.now x.rows row.block row older all) sound.rows;
  records = sound.records;
}

-- a call that is rightly answered keeps it so
pub after-sound : (p : Parts) (c : Call) (a : Answer) → IsSound p → IsRight p c a → IsSound (after p c a)
after-sound p (Read f b) a sound right = sound
after-sound p (Write t f b content) (Found row) sound right = sound
after-sound p (Write t f b content) (Wrote (Ok scn)) sound right =
    subst (λ n. IsSound (with_write p t f b content n)) (sym right.1) (write-sound p t f b content sound (allowed p t f b right.0).1)
after-sound p (Write t f b content) (Wrote (Err fault)) sound right = sound
after-sound p (Write t f b content) (Mended made) sound right = sound
after-sound p (Mend f row) (Found found) sound right = sound
after-sound p (Mend f row) (Wrote w) sound right = sound
after-sound p (Mend f row) (Mended true) sound right = mend-sound p f row sound right.1
after-sound p (Mend f row) (Mended false) sound right = sound

-- and so does a legal list of events
pub fold-sound : (p : Parts) (log : List Event) → IsSound p → IsLegal p log → IsSound (fold_of p log)
fold-sound p [] sound legal = sound
fold-sound p (e ∷ es) sound legal = fold-sound (after p e.call e.answer) es (after-sound p e.call e.answer sound legal.0) legal.1

module _ (P : Parts → Type 0) (write : (p : Parts) (t f b : ℕ) (content : Block) (scn : ℕ) → P p → P (with_write p t f b content scn))
    (mend : (p : Parts) (f : ℕ) (row : Row) → P p → P (record p { files = with_put p.files f row })) where
  -- what a write and a mend keep, each call keeps
  pub after-keeps : (p : Parts) (c : Call) (a : Answer) → P p → P (after p c a)
  after-keeps p (Read f b) a is = is
  after-keeps p (Write t f b content) (Found row) is = is
  after-keeps p (Write t f b content) (Mended made) is = is
  after-keeps p (Write t f b content) (Wrote (Ok scn)) is = write p t f b content scn is
  after-keeps p (Write t f b content) (Wrote (Err fault)) is = is
  after-keeps p (Mend f row) (Found found) is = is
  after-keeps p (Mend f row) (Wrote w) is = is
  after-keeps p (Mend f row) (Mended true) is = mend p f row is
  after-keeps p (Mend f row) (Mended false) is = is

  -- and so does a list of events
  pub fold-keeps : (p : Parts) (log : List Event) → P p → P (fold_of p log)
  fold-keeps p [] is = is
  fold-keeps p (e ∷ es) is = fold-keeps (after p e.call e.answer) es (after-keeps p e.call e.answer is)

-- a thread that is there stays there
pub fold-thread : (p : Parts) (log : List Event) (t : ℕ) → IsThread p.logs t → IsThread (fold_of p log).logs t
fold-thread p log t =
    fold-keeps (λ q. IsThread q.logs t)
    (λ q u f b content scn. IsThread-with_change q.logs (record { inc = q.inc; thread = u; scn = scn; file = f; block = b; content = content }) t) (λ q f row is. is) p log

-- and one that is not lost is not lost later
pub fold-found : (p : Parts) (log : List Event) (t : ℕ) → ¬ IsLost p.logs t → ¬ IsLost (fold_of p log).logs t
fold-found p log t =
    fold-keeps (λ q. ¬ IsLost q.logs t)
    (λ q u f b content scn. IsLost-with_change q.logs (record { inc = q.inc; thread = u; scn = scn; file = f; block = b; content = content }) t) (λ q f row is. is) p log

after-now : (p : Parts) (c : Call) (a : Answer) → IsRight p c a → p.now ≤ (after p c a).now
after-now p (Read f b) a right = omega arith
after-now p (Write t f b content) (Found row) right = omega arith
after-now p (Write t f b content) (Mended made) right = omega arith
after-now p (Write t f b content) (Wrote (Ok scn)) right = omega (arith, right.1)
after-now p (Write t f b content) (Wrote (Err fault)) right = omega arith
after-now p (Mend f row) (Found found) right = omega arith
after-now p (Mend f row) (Wrote w) right = omega arith
after-now p (Mend f row) (Mended true) right = omega arith
after-now p (Mend f row) (Mended false) right = omega arith

-- `now` never falls
pub fold-now : (p : Parts) (log : List Event) → IsLegal p log → p.now ≤ (fold_of p log).now
fold-now p [] legal = omega arith
fold-now p (e ∷ es) legal = omega (arith, after-now p e.call e.answer legal.0, fold-now (after p e.call e.answer) es legal.1)
