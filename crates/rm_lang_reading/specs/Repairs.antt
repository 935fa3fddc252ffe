-- The statements that mend blocks, and the command that each one is.
use Rattle.std.specs.{Prelude.{Option, Some, None, codes}, Option.{option_map}}
use Rattle.rm_lang_grammar.specs.Grammar.{◌▸◌, Grammar, Values, Choice, first, second, end, semicolon, word, number, any, optional, either, numbers}
use Rattle.rm_lang_grammar.specs.Forms.{Form}
use Rattle.rm_lang_statement.specs.{Named.{in_order}, declared.command.{NamedBlocks.{NamedBlocks}, RepairForm.{RepairForm}}}
use Rattle.rm_lang_statement.specs.declared.command.Command.{Command, TheVariants.{BlockRecover}}
use Rattle.rm_lang_reading.specs.Backups.{during_line, during_of}

-- CORRUPTION LIST
abbrev pub corruption_line : Grammar
corruption_line = word (codes "CORRUPTION") ▸ word (codes "LIST") ▸ end

-- DATAFILE n BLOCK n {, n}*
abbrev pub blocks_line : Grammar
blocks_line = word (codes "DATAFILE") ▸ number any ▸ word (codes "BLOCK") ▸ numbers ▸ end

-- the blocks, ascending and each once
abbrev pub ordered : NamedBlocks → NamedBlocks
ordered n = record { file = n.file; blocks = in_order n.blocks }

-- the blocks that are named; None is all damaged ones
abbrev pub blocks_of : Choice (Values corruption_line) (Values blocks_line) → Option NamedBlocks
blocks_of (first v) = None
blocks_of (second v) = Some (ordered (record { file = v.0; blocks = v.1.0 }))

-- BLOCKRECOVER (CORRUPTION LIST | DATAFILE n BLOCK n {, n}*) [DURING { {write ;}* }]
abbrev pub block_recover_line : Grammar
block_recover_line = word (codes "BLOCKRECOVER") ▸ either corruption_line blocks_line ▸ optional during_line ▸ semicolon

abbrev pub repair_of : Values block_recover_line → RepairForm
repair_of v = record { blocks = blocks_of v.0; during = option_map during_of v.1.0 }

unfoldable pub block_recover : Form Command
block_recover = record { line = block_recover_line; meaning = λ v. Some (BlockRecover (repair_of v)) }
