use Rattle.std.proofs.Common.{◌∙◌, ◌-◌, ◌++◌, ◌∷◌, [], List, ap, sym, map, refl}
use Rattle.source_snippet.specs.Lines.{column_in}
use Rattle.source_snippet.specs.Messages.{line_of}
use Rattle.source_snippet.specs.declared.message.Quoted.{Quoted}
use Rattle.std.specs.Prelude.{string_bytes}
use Rattle.call_messages.proofs.plain.section.Goals as goal

pub returns : goal.returns
returns c =
    let line = c.line_at-line.result in
    record {
      start = line.start;
      only = line_of c.in_ok-first.first;
      quoted = c.in_ok-first.ensures.quoted;
      has_title = refl;
      has_file = refl;
      has_line = refl;
      has_column = c.column_in-column.ensures ∙ ap (column_in line.text.now) c.saturating_sub.ensures
          ∙ ap (λ t. column_in t (c.args.range.start - line.start)) (sym c.in_ok-first.ensures.text);
      has_lines = ap (map line_of) (c.in_ok-push.ensures.items ∙ ap (λ (xs : List Quoted). xs ++ c.in_ok-first.first ∷ []) c.new-lines.ensures.items);
      has_notes = ap (map string_bytes) c.new.ensures.items;
    }
