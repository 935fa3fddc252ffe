-- The tag of a backup keeps the rule of records.
use Rattle.std.specs.List.{list_all}
use Rattle.std.proofs.Common.{◌≡◌, ◌&&◌, inl, inr, ℕ, List, [], ◌∷◌, Option, Some, None, true, refl, sym, subst, arith, All, length, nat_le, bytes_eq}
use Rattle.std.proofs.lemmas.{Bool.{and_parts, and_from, leb-true, Decides.{nat_tests}}, List.Elements.{All-head, All-tail}}
use Rattle.rm_lang_token.specs.Tokens.{is_word_byte}
use Rattle.rm_lang_grammar.specs.{Grammar.{capitals, in_range, is_tag}, Spelling.{is_capital_tag, maybe_valid}}
use Rattle.rm_lang_statement.specs.{Agreed.{agrees}, IsCommand.{is_backup}, Named.{are_named}, declared.command.BackupForm.{BackupForm}}
use Rattle.rm_catalog.specs.Objects.{IsTag, is_tag_byte}
use Rattle.rm_moments.{specs.Tags.{IsTagByte}, proofs.Tags.{tag-long, tag-bytes}}
use Rattle.rm_moments.specs.Text as text
use Rattle.rm_machine.specs.{Backup.{IsTagBy, named_tag}, Until.{or_else}}

-- a byte of a word is one of a tag
word-tag : (c : ℕ) → is_word_byte c ≡ true → is_tag_byte c ≡ true
word-tag c is = grind (arith, nat_tests)

words-tag : (w : List ℕ) → list_all is_word_byte w ≡ true → list_all is_tag_byte w ≡ true
words-tag [] is = refl
words-tag (c ∷ cs) is =
    let both = and_parts (is_word_byte c) (list_all is_word_byte cs) is in
    and_from (is_tag_byte c) (list_all is_tag_byte cs) (word-tag c both.0) (words-tag cs both.1)

-- a tag that is named
named-tag : (w : List ℕ) → is_capital_tag w ≡ true → IsTag w
named-tag w is =
    let tag = (and_parts (is_tag w) (bytes_eq w (capitals w)) is).0 in
    let parts = and_parts (nat_le 1 (length w) && nat_le (length w) 30) (list_all is_word_byte w) tag in
    let long = and_parts (nat_le 1 (length w)) (nat_le (length w) 30) parts.0 in
    record { some = leb-true 1 (length w) long.0; few = leb-true (length w) 30 long.1; bytes = words-tag w parts.1 }

-- a tag of a moment
digit-tag : (c : ℕ) → IsTagByte c → is_tag_byte c ≡ true
digit-tag c (inl is) = let low = is.0 in let high = is.1 in grind (arith, nat_tests)
digit-tag c (inr is) = let low = is.0 in let high = is.1 in grind (arith, nat_tests)

digits-tag : (tag : List ℕ) → All IsTagByte tag → list_all is_tag_byte tag ≡ true
digits-tag [] all = refl
digits-tag (c ∷ cs) all = and_from (is_tag_byte c) (list_all is_tag_byte cs) (digit-tag c (All-head IsTagByte c cs all)) (digits-tag cs (All-tail IsTagByte c cs all))

moment-tag : (moment : ℕ) (tag : List ℕ) → text.IsTag moment tag → IsTag tag
moment-tag moment tag is =
    let long = tag-long moment tag is in
    record { some = omega (arith, long); few = omega (arith, long); bytes = digits-tag tag (tag-bytes moment tag is) }

-- the tag of a backup
tag-by : (named : Option (List ℕ)) (moment : ℕ) (tag : List ℕ) → maybe_valid is_capital_tag named ≡ true → IsTagBy named moment tag → IsTag tag
tag-by None moment tag valid is = moment-tag moment tag is
tag-by (Some name) moment tag valid is = subst IsTag (sym is) (named-tag name valid)

valid-either : (first second : Option (List ℕ)) → maybe_valid is_capital_tag first ≡ true → maybe_valid is_capital_tag second ≡ true → maybe_valid is_capital_tag (or_else first second) ≡ true
valid-either None second one other = other
valid-either (Some name) second one other = one

pub tag-fits : (b : BackupForm) (moment : ℕ) (tag : List ℕ) → is_backup b ≡ true → IsTagBy (named_tag b) moment tag → IsTag tag
tag-fits b moment tag valid is =
    let words = (and_parts _ (agrees b.copy b) valid).0 in
    let sets = (and_parts (maybe_valid are_named b.files) _ (and_parts (maybe_valid (in_range 0 1) b.level) _ words).1).1 in
    let tags = (and_parts (maybe_valid (in_range 1 64) b.files_per_set) _ sets).1 in
    let tag_is = and_parts (maybe_valid is_capital_tag b.tag) _ tags in
    let merge_is = and_parts (maybe_valid is_capital_tag b.merge_tag) _ tag_is.1 in
    tag-by (named_tag b) moment tag (valid-either b.merge_tag b.tag merge_is.0 tag_is.0) is
