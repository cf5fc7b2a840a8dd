-- The answer of a printer, in the form of the definition of printed text.
use Rattle.std.specs.Prelude.{string_bytes}
use Rattle.bridge.specs.Printing.{Print}
use Rattle.bridge.specs.declared.printing.printer.LazyPrinted.{LazyPrinted}
use Rattle.bridge.specs.declared.printing.printer.Printed.{Printed}

abbrev pub lazy_print_in : LazyPrinted → Print
lazy_print_in p = record { text = string_bytes p.text; tokens = p.tokens; left_out = p.left_out.items }

abbrev pub print_in : Printed → Print
print_in p = record { text = string_bytes p.text; tokens = p.tokens.items; left_out = p.left_out.items }
