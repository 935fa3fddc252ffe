-- Which bytes were written of a text, and the lines of what is refused.
use Rattle.std.specs.Prelude.{ℕ, ◌≡◌, ◌<◌, ◌++◌, List, [], ◌∷◌, length, take, Option, codes}
use Rattle.rm_base.specs.{Outside.{Appends, Rose}, declared.refusal.Refusal.{Refusal}}
use Rattle.rm_report.specs.{Reply.{refused_by}, Text.{reply_text}}
use Rattle.rm_tool_ends.specs.declared.ended.Ended.{Ended}
use Rattle.rm_tool_ends.specs.declared.ended.Ended.TheVariants as ended

-- some of the first bytes were written, not all of them, and no others
abbrev pub WritesFront : Option (List ℕ) → Option (List ℕ) → List ℕ → Type 0
WritesFront before after bytes = (n : ℕ) × (n < length bytes) × Appends before after (take n bytes)

-- the line of status 2
abbrev pub bad_words : List ℕ
bad_words = codes "rman: bad words" ++ 10 ∷ []

-- the line of a refusal, as text
abbrev pub refusal_line : Refusal → List ℕ
refusal_line refusal = reply_text (refused_by refusal)

-- what was written where the line of a refusal was not written
abbrev pub WritesRefusal : Refusal → Option (List ℕ) → Option (List ℕ) → Ended → Type 0
WritesRefusal refusal before now ended.Sink = WritesFront before now (refusal_line refusal)
WritesRefusal refusal before now ended.NoMemory = now ≡ before
WritesRefusal refusal before now _ = ⊥

-- whose count rose there
abbrev pub RoseInRefusal : ℕ → ℕ → Ended → Type 0
RoseInRefusal k k' ended.Sink = Rose k k'
RoseInRefusal k k' _ = Unit {0}
