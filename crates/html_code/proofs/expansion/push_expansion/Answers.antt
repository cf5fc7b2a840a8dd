-- Token by token: what it adds behind some gap, and where the next one begins.
use Rattle.std.proofs.Common.{◌≤◌, ◌+◌, ◌++◌, ℕ, List, drop, length, ◌≡◌, ap, sym, ◌∙◌, refl, string_bytes, subst, arith}
use Rattle.std.specs.Prelude.{chars, map}
use Rattle.rustc_lexer.specs.Lexing.{tokens_of}
use Rattle.rustc_lexer.specs.Remaining.{tokens_left}
use Rattle.html_code.specs.ExpansionParts.{Place, beginning, expansion_from}
use Rattle.html_code.specs.Parts.{html_of}
use Rattle.html_code.specs.declared.layout.Gap.{Gap}
use Rattle.rustc_lexer.specs.TokensAt.{AreTokensFrom}
use Rattle.rustc_lexer.specs.declared.token.Token.{Token}
use Rattle.html_code.proofs.ExpansionLemmas.{begins, ends, whole, word_more}
use Rattle.html_code.specs.Places.{place_of}
use Rattle.html_code.proofs.expansion.push_expansion.Goals as goal

pub loop-token-init : goal.loop-token-init
loop-token-init c =
    let begin : Place = beginning c.args.numbers.now c.args.origins.now in
    let printed : List ℕ = c.args.printed.now in
    let all : List Gap → List ℕ =
    λ gaps. string_bytes c.push_str.new.self ++ html_of (expansion_from c.args.setting.now.fold.now (map string_bytes c.args.setting.now.names.now) gaps begin printed (tokens_of (chars printed))) in
    let same : tokens_left c.into_iter-token-iterator.result ≡ tokens_of (chars printed) =
    ap tokens_left c.into_iter-token-iterator.ensures.into_iter_gives ∙ c.tokenize-token-items.ensures in
    record {
      stand = subst (λ (ts : List Token). AreTokensFrom printed 0 ts) (sym same) (c.tokens_begin.ensures printed c.utf8.printed);
      parts =
          begins c.args.setting.now.fold.now (map string_bytes c.args.setting.now.names.now) all (string_bytes c.push_str.new.self) begin
          printed (tokens_left c.into_iter-token-iterator.result) same (λ gaps. refl);
    }

pub overflow_add-end : goal.overflow_add-end
overflow_add-end c =
    let at = (c.next_token.ensures.here _ _ _ _ _ c.utf8.printed c.loop-token.invariant.stand c.in-Some.ensures.steps) in
    let fits : c.loop-token.start + c.in-Some.token.len ≤ length c.args.printed.now = at.stop.0 in
    omega (arith, c.requires)

pub word_at-word-requires-clause-here : goal.word_at-word-requires-clause-here
word_at-word-requires-clause-here c =
    c.next_token.ensures.here _ _ _ _ _ c.utf8.printed c.loop-token.invariant.stand c.in-Some.ensures.steps

pub loop-token-preserved : goal.loop-token-preserved
loop-token-preserved c =
    let begin : Place = beginning c.args.numbers.now c.args.origins.now in
    let all : List Gap → List ℕ =
    λ gaps. string_bytes c.push_str.new.self ++ html_of (expansion_from c.args.setting.now.fold.now (map string_bytes c.args.setting.now.names.now) gaps begin c.args.printed.now (tokens_of (chars c.args.printed.now))) in
    record {
      stand = c.next_token.ensures.others _ _ _ _ _ c.utf8.printed c.loop-token.invariant.stand c.in-Some.ensures.steps;
      parts =
          word_more c.args.setting.now.fold.now (map string_bytes c.args.setting.now.names.now) c.args.printed.now c.loop-token.start c.in-Some.token _ _ c.in-Some.ensures.steps all
          (string_bytes c.loop-token.page) (string_bytes c.push_word.new.page) c.word_at-word.result.now
          (place_of c.loop-token.progress) (place_of c.push_word.new.progress) (c.loop-token.start + c.in-Some.token.len)
          c.loop-token.invariant.parts refl c.word_at-word.ensures c.in_ok-push_word.ensures;
    }

pub returns : goal.returns
returns c =
    let begin : Place = beginning c.args.numbers.now c.args.origins.now in
    let all : List Gap → List ℕ =
    λ gaps. string_bytes c.push_str.new.self ++ html_of (expansion_from c.args.setting.now.fold.now (map string_bytes c.args.setting.now.names.now) gaps begin c.args.printed.now (tokens_of (chars c.args.printed.now))) in
    whole c.args.setting.now.fold.now (map string_bytes c.args.setting.now.names.now) (string_bytes c.args.page.now) (string_bytes c.push_str.new.self) (string_bytes c.push_fold_end.new.page)
    c.args.numbers.now c.args.origins.now c.args.printed.now c.in_ok-push_str.ensures.bytes
    (ends c.args.setting.now.fold.now (map string_bytes c.args.setting.now.names.now) all (string_bytes c.loop-token.page) (string_bytes c.push_fold_end.new.page) (place_of c.loop-token.progress)
    (drop c.loop-token.start c.args.printed.now) (tokens_left c.loop-token.token-iterator) c.loop-token.invariant.parts
    c.in-None.ensures.steps.0 c.in_ok-push_fold_end.ensures)
