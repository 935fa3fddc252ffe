-- A command of the grammar writes whole blocks.
use Rattle.std.specs.List.{list_all}
use Rattle.std.proofs.Common.{ℕ, ◌≡◌, ◌≤◌, ◌-◌, ◌∷◌, [], Bool, true, false, ◌&&◌, List, Option, Some, None, All, length, rules, refl, sym, ◌∙◌, ap, arith, replicate, if◌then◌else◌, unwrap_or}
use Rattle.std.proofs.lemmas.{Bool.{and_parts}, List.{length-append, length-replicate, Elements.{All-cons, All-nil}}}
use Rattle.std.proofs.lemmas.Slice.Eq.{bytes_eq-Decides}
use Rattle.rm_base.specs.Content.{padded, trimmed}
use Rattle.rm_lang_token.specs.Spelling.{are_string_bytes}
use Rattle.rm_lang_grammar.specs.{Spelling.{is_capital_tag, keeps, maybe_valid}, Grammar.{in_range}}
use Rattle.rm_lang_statement.specs.{Agreed.{agrees}, Named.{are_named}, IsCommand.{is_command, is_named, is_write}}
use Rattle.rm_lang_statement.specs.declared.command.{WriteForm.{WriteForm}, Command.{Command, TheVariants.{Backup, BlockRecover, Write}}}
use Rattle.rm_machine.specs.Step.{HasContent}

-- a text of at most 64 bytes becomes a whole block
padded-whole : (w : List ℕ) → length w ≤ 64 → length (padded w).0 ≡ 64
padded-whole w few = let a = length-append {A = ℕ} w (replicate (64 - length w) 0) in let b = length-replicate {A = ℕ} (64 - length w) 0 in omega (arith, a, b, few)

-- what is kept of a text is a whole block
by-test : (b : Bool) (w v : List ℕ) → (b ≡ true → length w ≤ 64) → keeps (if b then Some (padded w).0 else None) v ≡ true → length v ≡ 64
by-test true w v few e = sym (ap length ((bytes_eq-Decides (padded w).0 v).0 e)) ∙ padded-whole w (few refl)
by-test false w v few e = search rules

-- a text between quotes has at most 64 bytes
string-few : (w : List ℕ) → are_string_bytes w ≡ true → length w ≤ 64
string-few w e = search rules

-- a write of the grammar
one : (w : WriteForm) → is_write w ≡ true → length w.content.0 ≡ 64
one w e = by-test (are_string_bytes (trimmed w.content.0)) (trimmed w.content.0) w.content.0 (string-few _) e

-- all of a list
all : (ws : List WriteForm) → list_all is_write ws ≡ true → All (λ (w : WriteForm). length w.content.0 ≡ 64) ws
all [] e = All-nil (λ (w : WriteForm). length w.content.0 ≡ 64)
all (w ∷ ws) e =
    let b = and_parts (is_write w) (list_all is_write ws) e in
    All-cons (λ (w : WriteForm). length w.content.0 ≡ 64) w ws (one w b.0) (all ws b.1)

-- those of a DURING, if there is one
has-contents : (o : Option (List WriteForm)) → maybe_valid (list_all is_write) o ≡ true → All (λ (w : WriteForm). length w.content.0 ≡ 64) (unwrap_or o [])
has-contents None e = All-nil (λ (w : WriteForm). length w.content.0 ≡ 64)
has-contents (Some ws) e = all ws e

-- what stands last among these
last-of : (a b c d e f g : Bool) → ((a && (b && (c && (d && (e && f))))) && g) ≡ true → f ≡ true
last-of a b c d e f g h =
    let first = and_parts (a && (b && (c && (d && (e && f))))) g h in
    let second = and_parts a (b && (c && (d && (e && f)))) first.0 in
    let third = and_parts b (c && (d && (e && f))) second.1 in
    let fourth = and_parts c (d && (e && f)) third.1 in
    let fifth = and_parts d (e && f) fourth.1 in
    (and_parts e f fifth.1).1

-- what a command of the grammar writes has 64 bytes
pub has-content : (c : Command) → is_command c ≡ true → HasContent c
has-content (Write w) h = one w h
has-content (Backup b) h =
    has-contents b.during (last-of (maybe_valid (in_range 0 1) b.level) (maybe_valid are_named b.files) (maybe_valid (in_range 1 64) b.files_per_set) (maybe_valid is_capital_tag b.tag) (maybe_valid is_capital_tag b.merge_tag) (maybe_valid (list_all is_write) b.during) (agrees b.copy b) h)
has-content (BlockRecover form) h = has-contents form.during (and_parts (maybe_valid is_named form.blocks) (maybe_valid (list_all is_write) form.during) h).1
has-content c h = tt
