-- No line of the schema has a moment, nor one of a damaged block, of an incarnation or of a row.
use Rattle.std.proofs.Common.{◌≡◌, ◌+◌, ◌++◌, ℕ, zero, suc, List, [], ◌∷◌, Option, Some, All, get_or, length, refl, subst, sym}
use Rattle.std.proofs.lemmas.List.Elements.{All-cons, All-contains, All-map, All-nil, Contains-append_left, Contains-get_or}
use Rattle.rm_base.{specs.{Store.{Held}, declared.block.BlockId.{BlockId}}, proofs.EveryStore.{nothing}}
use Rattle.rm_history.specs.declared.{tree.Incarnation.{Incarnation}, world.Datafile.{Datafile}}
use Rattle.rm_lang_statement.specs.declared.command.Command.TheVariants.{Dump, ListIncarnation}
use Rattle.rm_report.specs.{Reply.{IsPlain}, declared.line.Line.{Line, TheVariants.{BlockDamaged, Dumped, Schema}}}
use Rattle.rm_machine.specs.{Corrupt.{damage_lines}, Effect.{told}, Hands.{Tells}, ListIncarnation.{incarnation_line, incarnation_lines}}
use Rattle.rm_machine.specs.{Shown.{place_of, schema_lines}, State.{current_of, ledger, tree}, declared.state.State.{State}}

schema-dated : (s : State) (f : ℕ) (ds : List Datafile) → All IsPlain (schema_lines s f ds)
schema-dated s f [] = All-nil IsPlain
schema-dated s f (d ∷ ds) = All-cons IsPlain (Schema f d.blocks d.creation d.inc (place_of s f d)) (schema_lines s (f + 1) ds) tt (schema-dated s (f + 1) ds)

-- nor has one of the first of them
front : (all lines rest : List Line) → lines ++ rest ≡ all → All IsPlain all → All IsPlain lines
front all lines rest is plain =
    let each : All IsPlain (lines ++ rest) = subst (All IsPlain) (sym is) plain in
    λ k d inside. All-contains IsPlain (lines ++ rest) (get_or lines k d) each (Contains-append_left lines rest (get_or lines k d) (Contains-get_or lines k d inside))

pub schema-front : (s : State) (lines rest : List Line) → lines ++ rest ≡ schema_lines s 1 (ledger s).files → All IsPlain lines
schema-front s lines rest is = front (schema_lines s 1 (ledger s).files) lines rest is (schema-dated s 1 (ledger s).files)

pub damage-front : (s : State) (lines rest : List Line) → lines ++ rest ≡ damage_lines s → All IsPlain lines
damage-front s lines rest is = front (damage_lines s) lines rest is (All-map IsPlain (λ (x : BlockId). BlockDamaged x.file x.block) s.instance.damaged (λ k d inside. tt))

incarnations-dated : (ns : List Incarnation) (current i n : ℕ) → All IsPlain (incarnation_lines ns current i n)
incarnations-dated ns current i zero = All-nil IsPlain
incarnations-dated ns current i (suc n) = All-cons IsPlain (incarnation_line ns current i) (incarnation_lines ns current (i + 1) n) tt (incarnations-dated ns current (i + 1) n)

-- lines that are told as plain ones are
plain-told : (lines plain : List Line) → told lines ≡ told plain → All IsPlain plain → All IsPlain lines
plain-told lines plain is each = let same : lines ≡ plain = cc in subst (All IsPlain) (sym same) each

-- what LIST INCARNATION and DUMP tell
pub list-dated : (s : State) (lines : List Line) → ((held : Option Held) → Tells held s ListIncarnation lines) → All IsPlain lines
list-dated s lines tells =
    plain-told lines (incarnation_lines (tree s) (current_of s) 1 (length (tree s))) (tells (Some nothing) nothing refl) (incarnations-dated (tree s) (current_of s) 1 (length (tree s)))

pub dump-dated : (file block : ℕ) (s : State) (lines : List Line) → ((held : Option Held) → Tells held s (Dump file block) lines) → All IsPlain lines
dump-dated file block s lines tells =
    let is = tells (Some nothing) nothing refl in
    let line : Line = Dumped file is.0.block is.0.version is.0.content in
    plain-told lines (line ∷ []) is.2 (All-cons IsPlain line [] tt (All-nil IsPlain))
