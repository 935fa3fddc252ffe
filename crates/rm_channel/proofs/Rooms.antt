-- Where there is room, no write is refused.
use Rattle.std.proofs.Common.{◌≡◌, ◌≢◌, ℕ, ◌+◌, ◌<◌, ◌≤◌, ◌==◌, Bool, true, false, Option, Some, None, Ok, Err, IsSome, is_none, List, [], ◌∷◌, length, All, refl, sym, ap, ◌∙◌, arith, eq-eqb, ne_eqb, length-append}
use mathlib.Core.Logic.{dite}
use native.Mathlib.Decide.{ℕ_discrete}
use Rattle.std.proofs.lemmas.List.Elements.{All-cons}
use Rattle.rm_base.specs.{Numbers.{last_scn}, declared.block.{Block.{Block}, Change.{Change}, Row.{Row}}}
use Rattle.rm_redo.specs.Online.{IsThread, thread_records, record_of, with_change}
use Rattle.rm_redo.proofs.Logs.{IsThread-with_change, thread_records-with_change, thread_records-with_change_other}
use Rattle.rm_live.specs.{Parts.{Parts, row_at, refusal_by, refusal_of, with_put}, History.{IsLegal, IsRight, IsWrite, after, with_write}}
use Rattle.rm_live.specs.{Ruled.{total, one_if}, declared.history.{Answer.{Answer, TheVariants.{Found, Mended, Wrote}}, Call.{Call}}}
use Rattle.rm_live.specs.declared.history.{Call.TheVariants.{Mend, Read, Write}, Event.{Event}, LiveFault.{LiveFault}}
use Rattle.rm_live.specs.declared.history.LiveFault.TheVariants.{NoBlock, Full, LastScn, NoMemory}
use Rattle.rm_channel.{specs.{Made.{is_by}, Runs.{is_refused}}, proofs.There.{there-after}}

-- a write of a block that is not there
abbrev pub is_lost : Parts → Call → Bool
is_lost p (Read f b) = false
is_lost p (Write t f b content) = is_none (row_at p.files f b)
is_lost p (Mend f row) = false

-- a write
abbrev pub is_write : Call → Bool
is_write (Read f b) = false
is_write (Write t f b content) = true
is_write (Mend f row) = false

-- how many of the events pass a test of their calls
abbrev pub count : (Call → Bool) → List Event → ℕ
count f es = total (λ (e : Event). one_if (f e.call)) es

-- There is room for what is still to come: the block of each write is there, each thread that writes is
-- there and has room in its log, and there are SCNs.
pub record HasRoom (p : Parts) (es : List Event) : Type 0 where
  pub blocks : count (is_lost p) es ≡ 0
  pub threads : (t : ℕ) → 0 < count (is_by t) es → IsThread p.logs t
  pub logs : (t : ℕ) → 0 < count (is_by t) es → length (thread_records p.logs t) + count (is_by t) es ≤ 65536
  pub scns : p.now + count is_write es ≤ last_scn

pub by-self : (t : ℕ) → one_if (t == t) ≡ 1
by-self t = let e = eq-eqb t t refl in rw e refl

pub by-other : (t u : ℕ) → t ≢ u → one_if (t == u) ≡ 0
by-other t u ne = let e = ne_eqb t u ne in rw e refl

lost-by : (o o' : Option Row) → (IsSome o → IsSome o') → one_if (is_none o') ≤ one_if (is_none o)
lost-by None None h = omega arith
lost-by None (Some x) h = omega arith
lost-by (Some x) None h = let bad = h refl in absurd (cc bad)
lost-by (Some x) (Some y) h = omega arith

-- a call loses no block that is there
lost-call : (p : Parts) (c : Call) (a : Answer) (d : Call) → one_if (is_lost (after p c a) d) ≤ one_if (is_lost p d)
lost-call p c a (Read f b) = omega arith
lost-call p c a (Mend f row) = omega arith
lost-call p c a (Write t f b content) = lost-by (row_at p.files f b) (row_at (after p c a).files f b) (there-after p c a f b)

lost-after : (p : Parts) (c : Call) (a : Answer) (es : List Event) → count (is_lost (after p c a)) es ≤ count (is_lost p) es
lost-after p c a [] = omega arith
lost-after p c a (e ∷ es) = let h = lost-after p c a es in let k = lost-call p c a e.call in omega arith

-- a call that changes nothing
room-less : (p : Parts) (c : Call) (es : List Event) (e : Event) → e.call ≡ c → HasRoom p (e ∷ es) → HasRoom p es
room-less p c es e is room = record {
  blocks = let h = room.blocks in omega arith;
  threads = λ t pos. room.threads t (omega arith);
  logs = λ t pos. let h = room.logs t (omega arith) in omega arith;
  scns = let h = room.scns in omega arith;
}

-- one write that was made
room-write : (p : Parts) (t f b scn : ℕ) (content : Block) (es : List Event) (e : Event) → e.call ≡ Write t f b content → scn ≡ p.now → HasRoom p (e ∷ es) → HasRoom (with_write p t f b content scn) es
room-write p t f b scn content es e is at room = record {
  blocks = let h = room.blocks in let k = lost-after p (Write t f b content) (Wrote (Ok scn)) es in omega arith;
  threads = λ u pos. IsThread-with_change p.logs change u (room.threads u (omega arith));
  logs = λ u pos. dite (ℕ_discrete u t)
      (λ (same : u ≡ t).
      let here : one_if (is_by u e.call) ≡ 1 = ap (λ (c : Call). one_if (is_by u c)) is ∙ ap (λ (n : ℕ). one_if (n == t)) same ∙ by-self t in
      let h = room.logs u (omega arith) in
      let more : length (thread_records (with_change p.logs change) u) ≡ length (thread_records p.logs u) + 1 =
      ap (λ (n : ℕ). length (thread_records (with_change p.logs change) n)) same
      ∙ ap length (thread_records-with_change p.logs change there)
      ∙ length-append (thread_records p.logs t) (record_of change ∷ [])
      ∙ ap (λ (n : ℕ). length (thread_records p.logs n) + 1) (sym same) in
      omega arith)
      (λ (ne : u ≢ t).
      let here : one_if (is_by u e.call) ≡ 0 = ap (λ (c : Call). one_if (is_by u c)) is ∙ by-other u t ne in
      let h = room.logs u (omega arith) in
      let same = ap length (thread_records-with_change_other p.logs change u there.0 (room.threads u (omega arith)).0 ne) in
      omega arith);
  scns = let here : one_if (is_write e.call) ≡ 1 = ap (λ (c : Call). one_if (is_write c)) is in let h = room.scns in omega arith;
}
  where
    change : Change
    change = record { inc = p.inc; thread = t; scn = scn; file = f; block = b; content = content }

    there : IsThread p.logs t
    there = let here : one_if (is_by t e.call) ≡ 1 = ap (λ (c : Call). one_if (is_by t c)) is ∙ by-self t in room.threads t (omega arith)

-- one mend
room-mend : (p : Parts) (f : ℕ) (row : Row) (es : List Event) (e : Event) → e.call ≡ Mend f row → HasRoom p (e ∷ es) → HasRoom (record p { files = with_put p.files f row }) es
room-mend p f row es e is room = record {
  blocks = let h = room.blocks in let k = lost-after p (Mend f row) (Mended true) es in omega arith;
  threads = λ t pos. room.threads t (omega arith);
  logs = λ t pos. let h = room.logs t (omega arith) in omega arith;
  scns = let h = room.scns in omega arith;
}

-- one event less
room-by : (p : Parts) (c : Call) (a : Answer) (es : List Event) (e : Event) → e.call ≡ c → HasRoom p (e ∷ es) → IsRight p c a → HasRoom (after p c a) es
room-by p (Read f b) a es e is room right = room-less p (Read f b) es e is room
room-by p (Write t f b content) (Found row) es e is room right = absurd right
room-by p (Write t f b content) (Mended made) es e is room right = absurd right
room-by p (Mend f row) (Found found) es e is room right = absurd right
room-by p (Mend f row) (Wrote w) es e is room right = absurd right
room-by p (Mend f row) (Mended true) es e is room right = room-mend p f row es e is room
room-by p (Mend f row) (Mended false) es e is room right = room-less p (Mend f row) es e is room
room-by p (Write t f b content) (Wrote (Ok scn)) es e is room right = room-write p t f b scn content es e is right.1 room
room-by p (Write t f b content) (Wrote (Err fault)) es e is room right = room-less p (Write t f b content) es e is room

none-by : (row : Option Row) (full last : Bool) → is_none row ≡ false → full ≡ false → last ≡ false → (records now : ℕ) → (records == 65536) ≡ full → (now == last_scn) ≡ last → refusal_by row records now ≡ None
none-by None full last there f l records now is is' = absurd (cc there)
none-by (Some row) full last there f l records now is is' = rw (is, f, is', l) refl

allowed-by : (refusal : Option LiveFault) (a : Answer) (p : Parts) → refusal ≡ None → IsWrite p refusal a → is_refused a ≡ false
allowed-by refusal (Found row) p none right = refl
allowed-by refusal (Mended made) p none right = refl
allowed-by refusal (Wrote (Ok scn)) p none right = refl
allowed-by refusal (Wrote (Err NoMemory)) p none right = refl
allowed-by refusal (Wrote (Err NoBlock)) p none right = let bad = sym none ∙ right in absurd (cc bad)
allowed-by refusal (Wrote (Err Full)) p none right = let bad = sym none ∙ right in absurd (cc bad)
allowed-by refusal (Wrote (Err LastScn)) p none right = let bad = sym none ∙ right in absurd (cc bad)

pub off-by : (b : Bool) → one_if b ≡ 0 → b ≡ false
off-by true e = absurd (omega arith)
off-by false e = refl

-- the answer is no refusal
right-by : (p : Parts) (c : Call) (a : Answer) (es : List Event) (e : Event) → e.call ≡ c → HasRoom p (e ∷ es) → IsRight p c a → is_refused a ≡ false
right-by p (Read f b) (Found row) es e is room right = refl
right-by p (Read f b) (Wrote w) es e is room right = absurd right
right-by p (Read f b) (Mended made) es e is room right = absurd right
right-by p (Mend f row) (Found found) es e is room right = absurd right
right-by p (Mend f row) (Wrote w) es e is room right = absurd right
right-by p (Mend f row) (Mended made) es e is room right = refl
right-by p (Write t f b content) a es e is room right =
    let lost : one_if (is_none (row_at p.files f b)) ≡ 0 = ap (λ (c : Call). one_if (is_lost p c)) (sym is) ∙ (let h = room.blocks in let k : one_if (is_lost p e.call) ≡ 0 = omega arith in k) in
    let here : one_if (is_by t e.call) ≡ 1 = ap (λ (c : Call). one_if (is_by t c)) is ∙ by-self t in
    let wrote : one_if (is_write e.call) ≡ 1 = ap (λ (c : Call). one_if (is_write c)) is in
    let log = room.logs t (omega arith) in
    let scns = room.scns in
    let full = ne_eqb (length (thread_records p.logs t)) 65536 (λ same. omega arith) in
    let last = ne_eqb p.now last_scn (λ same. omega arith) in
    allowed-by (refusal_of p t f b) a p (none-by (row_at p.files f b) false false (off-by (is_none (row_at p.files f b)) lost) refl refl (length (thread_records p.logs t)) p.now full last) right

pub accepted : (p : Parts) (es : List Event) → HasRoom p es → IsLegal p es → All (λ (e : Event). is_refused e.answer ≡ false) es
accepted p [] room legal = λ k d lt. absurd (omega arith)
accepted p (e ∷ es) room legal =
    All-cons (λ (e : Event). is_refused e.answer ≡ false) e es (right-by p e.call e.answer es e refl room legal.0)
    (accepted (after p e.call e.answer) es (room-by p e.call e.answer es e refl room legal.0) legal.1)
