-- Proves that a list of statements that was read is a sequence of statements.
use Rattle.std.proofs.Common.{ℕ, List, sym, subst}
use Rattle.ob0_scan.specs.declared.lexeme.Token.{Token}
use Rattle.ob0_tree.specs.declared.tree.Statement.{Statement}
use Rattle.ob0_tree.specs.View.{items_of, statement_of, statement_after_semicolon_of, sequence_of_list}
use Rattle.ob0_parse_descent.specs.ParserPromises.{IsReadTree, IsReadList}
use Rattle.ob0_parse_descent.proofs.StatementParts.{taken_runs}

pub taken_sequence : {room : ℕ} {ts : List Token} {at n : ℕ} (xs : List Statement) → IsReadList statement_of statement_after_semicolon_of xs room ts at n → IsReadTree (sequence_of_list xs) room ts at n
taken_sequence {room = room} {ts = ts} {at = at} {n = n} xs p =
    subst (λ l. IsReadTree (sequence_of_list l) room ts at n) (sym p.is) (taken_runs (statement_of p.first) (items_of statement_after_semicolon_of p.others) p.head p.tail)
