use Rattle.std.proofs.Common.{codes}
use Rattle.std.proofs.lemmas.Option.{IfSome_then}
use Rattle.clap.specs.Words.{found_of}
use Rattle.command_line.proofs.CommandLemmas.{value_is}
use Rattle.command_line.proofs.request.options_in.Goals as goal

pub returns : goal.returns
returns c = IfSome_then c.options_of.result c.options_of.ensures (λ options h. record {
  grammar = c.in_ok-grammar.grammar.now;
  edition = c.in_ok-edition.edition.now;
  scope = c.in_ok-scope.scope.now;
  depth = c.in_ok-depth.depth.now;
  calls = c.in_ok-calls.calls.now;
  tokens = c.in_ok-tokens.tokens.now;
  has_grammar = value_is (λ s. s.now) (found_of c.args.matches.now) (codes "grammar") c.get_str.result c.in_ok-grammar.grammar c.get_str.ensures c.in_ok-grammar.was;
  has_edition = value_is (λ s. s.now) (found_of c.args.matches.now) (codes "edition") c.get_str-2.result c.in_ok-edition.edition c.get_str-2.ensures c.in_ok-edition.was;
  has_scope = value_is (λ s. s.now) (found_of c.args.matches.now) (codes "scope") c.get_str-3.result c.in_ok-scope.scope c.get_str-3.ensures c.in_ok-scope.was;
  has_depth = value_is (λ s. s.now) (found_of c.args.matches.now) (codes "depth") c.get_str-4.result c.in_ok-depth.depth c.get_str-4.ensures c.in_ok-depth.was;
  has_calls = value_is (λ s. s.now) (found_of c.args.matches.now) (codes "most-calls") c.get_str-5.result c.in_ok-calls.calls c.get_str-5.ensures c.in_ok-calls.was;
  has_tokens = value_is (λ s. s.now) (found_of c.args.matches.now) (codes "most-tokens") c.get_str-6.result c.in_ok-tokens.tokens c.get_str-6.ensures c.in_ok-tokens.was;
  chosen = h;
})
