-- Token by token: what it adds, and where the next one begins.
use Rattle.std.proofs.Common.{◌≤◌, ◌+◌, ◌++◌, List, Option, ℕ, ap, drop, length, refl, string_bytes, arith}
use Rattle.rustc_lexer.specs.Remaining.{tokens_left}
use Rattle.html_code.specs.Parts.{html_of}
use Rattle.html_code.specs.Places.{point_of}
use Rattle.html_code.specs.SourceParts.{source_parts}
use Rattle.html_code.proofs.SourceLemmas.{count_more, ends, parts_more, starts_more}
use Rattle.html_code.proofs.source.push_source.Goals as goal

pub overflow_add-end : goal.overflow_add-end
overflow_add-end c =
    let at = (c.next_token.ensures.here _ _ _ _ _ c.utf8.text c.loop-token.invariant.stand c.in-Some.ensures.steps) in
    let fits : c.loop-token.start + c.in-Some.token.len ≤ length c.args.text.now = at.stop.0 in
    omega (arith, c.requires)

pub word_at-word-requires-clause-here : goal.word_at-word-requires-clause-here
word_at-word-requires-clause-here c =
    c.next_token.ensures.here _ _ _ _ _ c.utf8.text c.loop-token.invariant.stand c.in-Some.ensures.steps

pub loop-token-preserved : goal.loop-token-preserved
loop-token-preserved c =
    let all : List (Option ℕ) → List ℕ = λ cuts. string_bytes c.args.page.now ++ html_of (source_parts cuts c.args.faults.now c.args.text.now) in
    record {
      stand = c.next_token.ensures.others _ _ _ _ _ c.utf8.text c.loop-token.invariant.stand c.in-Some.ensures.steps;
      parts =
          parts_more c.args.text.now c.loop-token.start c.in-Some.token _ _ c.in-Some.ensures.steps all
          (point_of c.loop-token.walk) (point_of c.push_word.new.walk) (length c.loop-token.starts.items) (length c.push_start.new.starts.items)
          (length c.as_slice.result.now + 1) (c.loop-token.start + c.in-Some.token.len) c.class_of-class.result c.word_at-word.result.now _ _
          c.loop-token.invariant.parts c.class_of-class.ensures (ap (λ (xs : List ℕ). length xs + 1) c.as_slice.ensures.value) refl
          c.word_at-word.ensures c.in_ok-push_word.ensures
          (count_more c.class_of-class.result c.loop-token.starts.items c.push_start.new.starts.items c.loop-token.start c.in_ok-push_start.ensures);
      starts =
          starts_more c.args.text.now c.loop-token.start c.in-Some.token _ _ c.in-Some.ensures.steps
          c.class_of-class.result (c.loop-token.start + c.in-Some.token.len) _ _ _ c.loop-token.invariant.starts c.class_of-class.ensures refl
          c.in_ok-push_start.ensures;
    }

pub returns-clause-parts : goal.returns-clause-parts
returns-clause-parts c =
    ends (λ cuts. string_bytes c.args.page.now ++ html_of (source_parts cuts c.args.faults.now c.args.text.now))
    (string_bytes c.loop-token.page) (point_of c.loop-token.walk) (length c.loop-token.starts.items) c.loop-token.start
    (drop c.loop-token.start c.args.text.now) (tokens_left c.loop-token.token-iterator) c.loop-token.invariant.parts c.in-None.ensures.steps.0
