-- A repair and what it says.
use Rattle.std.specs.{List.{list_all}, Option.{option_map}}
use Rattle.std.proofs.{Common.{◌≡◌, refl, ap, ◌∙◌, ℕ, List, [], ◌∷◌, Option, Some, None, true, ◌&&◌}, lemmas.Bool.{and_parts, and_from}}
use Rattle.rm_lang_grammar.specs.{Grammar.{Choice, first, second, Values}, Spelling.{is_some_list, maybe_valid, one_valid, valid}}
use Rattle.rm_lang_statement.specs.{Named.{are_named}, IsCommand.{is_named, is_repair, is_write}}
use Rattle.rm_lang_statement.specs.declared.command.{NamedBlocks.{NamedBlocks}, RepairForm.{RepairForm}}
use Rattle.rm_lang_reading.specs.Backups.{during_line, during_of}
use Rattle.rm_lang_reading.specs.Repairs.{corruption_line, blocks_line, blocks_of, ordered, block_recover_line, repair_of}
use Rattle.rm_lang_reading.{specs.Values.{blocks_values, repair_values}, proofs.InOrder.{in_order-named, named-in_order}}
use Rattle.rm_lang_reading.proofs.Parts.{blocks_again, during_again}
use Rattle.rm_lang.proofs.Backups.{during_valid, during_passes}

-- blocks that are in order stay so
blocks_kept : (o : Option NamedBlocks) → maybe_valid is_named o ≡ true → option_map ordered o ≡ o
blocks_kept None h = refl
blocks_kept (Some n) h = ap (λ (bs : List ℕ). Some (record n { blocks = bs })) (named-in_order n.blocks h)

-- a repair that passes the test is what its values mean
pub repair_again : (r : RepairForm) → is_repair r ≡ true → repair_of (repair_values r) ≡ r
repair_again r h =
    let b = and_parts (maybe_valid is_named r.blocks) (maybe_valid (list_all is_write) r.during) h in
    rw (blocks_again r.blocks ∙ blocks_kept r.blocks b.0, during_again r.during) refl

-- and its values are valid
blocks_valid : (o : Option NamedBlocks) → maybe_valid is_named o ≡ true → one_valid (valid corruption_line) (valid blocks_line) (blocks_values o) ≡ true
blocks_valid None h = refl
blocks_valid (Some n) h = numbers_valid n.blocks h
  where
    numbers_valid : (bs : List ℕ) → are_named bs ≡ true → (is_some_list bs && true) ≡ true
    numbers_valid [] h = absurd (cc)
    numbers_valid (b ∷ bs) h = refl

pub repair_valid : (r : RepairForm) → is_repair r ≡ true → valid block_recover_line (repair_values r) ≡ true
repair_valid r h =
    let b = and_parts (maybe_valid is_named r.blocks) (maybe_valid (list_all is_write) r.during) h in
    rw (blocks_valid r.blocks b.0, during_valid r.during b.1) refl

-- the repair of valid values passes the test
blocks_pass : (v : Choice (Values corruption_line) (Values blocks_line)) → one_valid (valid corruption_line) (valid blocks_line) v ≡ true → maybe_valid is_named (blocks_of v) ≡ true
blocks_pass (first v) h = refl
blocks_pass (second v) h = in_order-named v.1.0 (and_parts (is_some_list v.1.0) true h).0

pub repair_passes : (v : Values block_recover_line) → valid block_recover_line v ≡ true → is_repair (repair_of v) ≡ true
repair_passes v h =
    let b = and_parts (one_valid (valid corruption_line) (valid blocks_line) v.0) (maybe_valid (valid during_line) v.1.0 && true) h in
    let during = (and_parts (maybe_valid (valid during_line) v.1.0) true b.1).0 in
    and_from (maybe_valid is_named (blocks_of v.0)) (maybe_valid (list_all is_write) (option_map during_of v.1.0)) (blocks_pass v.0 b.0) (during_passes v.1.0 during)
