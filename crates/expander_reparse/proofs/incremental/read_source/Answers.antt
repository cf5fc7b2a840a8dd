use Rattle.std.proofs.Common.{◌≡◌, ℕ, ◌≤◌, List, IsUtf8, ap, arith, chars, drop, length, rules, sym, take, ◌∙◌}
use Rattle.std.proofs.lemmas.Str.{IsUtf8-drop}
use Rattle.rustc_lexer.specs.Lexing.{run_on}
use Rattle.expander_reparse.specs.Segments.{chars_ahead}
use Rattle.expander_reparse.proofs.PieceReadingLemmas.{PartLaws, source_here}
use Rattle.expander_reparse.proofs.incremental.read_source.Goals as goal

pub returns-clause-found : goal.returns-clause-found
returns-clause-found c =
    let parts : PartLaws = record {
      tokens = c.parts_of_a_text.ensures.tokens;
      elsewhere = c.parts_at_other_places.ensures.steps;
      same_tree = c.parts_at_other_places.ensures.relative;
      at_first = c.parts_at_other_places.ensures.first;
      equal = c.equal_parts.ensures.steps;
      first = c.first_tokens.ensures.two;
    } in
    let some : 1 ≤ c.in-Some.count = omega (arith, c.if-count-eq0.false) in
    let text : List ℕ = drop c.args.at c.args.text.now in
    let utf8 : IsUtf8 text = IsUtf8-drop c.args.text.now c.args.at c.utf8.text c.requires.tokens.boundary in
    let rest : c.range_from-rest.result.now ≡ text = search rules in
    let n : ℕ = c.in-Some-bytes_in.len in
    let word : c.in-Some-word_of.word.now ≡ take n text = c.in-Some-word_of.ensures.word.0 ∙ ap (take n) rest in
    let fits : n ≤ length text = rw (sym rest) c.in-Some-word_of.ensures.word.1 in
    let ahead : chars_ahead c.in-Some-word_of.ahead ≡ take 2 (chars (drop n text)) =
    c.in-Some-word_of.ensures.ahead ∙ ap (λ (bs : List ℕ). take 2 (chars (drop n bs))) rest in
    let apart : run_on (take n text) (drop n text) ≡ 0 = rw (sym rest) (c.is_apart.ensures c.if-not-is_apart.false) in
    source_here parts text c.in_ok-bytes.bytes c.args.tokens.now _ _ c.in-Some.count n c.in-Some-Whole-default.tree _ utf8 c.requires.tokens.tokens
    c.in-Some.ensures some fits c.in-Some-bytes_in.ensures (c.in_ok-bytes.ensures ∙ word) c.split_at.ensures.front c.split_at.ensures.back apart
    (c.in_ok-source.ensures (drop n text) ahead) (rw c.in-Some-Whole-default.field-0-0-is at (rw c.in-Some-Whole-default.is at c.in_ok-tree.ensures.read))
