-- Proves that shifting the leaves of each part of a value, one part after another, shifts the
-- leaves of the value's tree.
use Rattle.std.proofs.Common.{◌≡◌, ℕ, Box, Option, sym, ◌∙◌, ap}
use Rattle.std.specs.declared.vec.Vec.{Vec}
use Rattle.std.specs.declared.alloc.Global.{Global}
use Rattle.ob0_tree.specs.declared.tree.SimpleExpression.{SimpleExpression, roll-SimpleExpression, out-SimpleExpression, out-roll-SimpleExpression}
use Rattle.ob0_tree.specs.declared.tree.Term.{Term, roll-Term, out-Term, out-roll-Term}
use Rattle.ob0_tree.specs.declared.tree.Addend.{Addend}
use Rattle.ob0_tree.specs.declared.tree.Multiplier.{Multiplier}
use Rattle.ob0_tree.specs.declared.tree.Factor as factor_module
use Rattle.ob0_tree.specs.declared.tree.Designator.{Designator}
use Rattle.ob0_tree.specs.declared.tree.WrittenType.{Record}
use Rattle.ob0_tree.specs.declared.tree.RecordType.{RecordType}
use Rattle.ob0_tree.specs.declared.tree.Expression.{Expression}
use Rattle.ob0_tree.specs.declared.tree.Statement.{Statement}
use Rattle.ob0_tree.specs.declared.tree.Statement as statement_module
use Rattle.ob0_tree.specs.declared.tree.While as while_module
use Rattle.ob0_tree.specs.declared.tree.Repeat as repeat_module
use Rattle.ob0_tree.specs.declared.tree.Elsif.{Elsif}
use Rattle.ob0_tree.specs.declared.tree.If.{If, roll-If, out-If, out-roll-If}
use Rattle.ob0_tree.specs.declared.tree.ConstantDeclaration.{ConstantDeclaration}
use Rattle.ob0_tree.specs.declared.tree.TypeDeclaration.{TypeDeclaration}
use Rattle.ob0_tree.specs.declared.tree.VariableDeclaration.{VariableDeclaration}
use Rattle.ob0_tree.specs.declared.tree.Procedure.{Procedure}
use Rattle.ob0_tree.specs.declared.tree.Block.{Block, roll-Block, out-Block, out-roll-Block}
use Rattle.ob0_tree.specs.Tree.{Tree, maybe, items, elsif_part, else_part, constants, type_definitions, variables, procedure, body, expression, sequence, sum, product, while_loop, repeat_loop, branches, declares, forms_block}
use Rattle.ob0_tree.specs.View.{simple_expression_of, addend_of, term_of, multiplier_of, factor_of, designator_of, items_of, expression_of, statement_of, sequence_of_list, if_of, elsif_of, else_part_of, type_of, record_type_of_list, constant_section_of, type_section_of, variable_section_of, procedure_of, body_of, block_of}
use Rattle.ob0_tree.proofs.Viewed.{simple_made, simple_parts, term_made, term_parts, designator_made, made_record_type, while_made, repeat_made, if_made, if_parts, block_made, block_parts}
use Rattle.ob0_parse.specs.ShiftedTrees.{tree_with_shifted_leaves}
use Rattle.ob0_parse.specs.declared.leaf_shifts.TokenIndexShift.{TokenIndexShift}

same_block : {c d : Tree ℕ (maybe constants)} {t u : Tree ℕ (maybe type_definitions)} {v w : Tree ℕ (maybe variables)} {p q : Tree ℕ (items procedure)} {a b : Tree ℕ (maybe body)}
    → c ≡ d → t ≡ u → v ≡ w → p ≡ q → a ≡ b → forms_block (declares c t v p) a ≡ forms_block (declares d u w q) b
same_block e f g h i = cc (e, f, g, h, i)

pub simple_moved : (by : TokenIndexShift) (s : SimpleExpression) (t : Term) (m : Vec Addend Global)
    → term_of t ≡ tree_with_shifted_leaves by (term_of (out-SimpleExpression s).first)
    → items_of addend_of m.items ≡ tree_with_shifted_leaves by (items_of addend_of (out-SimpleExpression (roll-SimpleExpression record { sign = (out-SimpleExpression s).sign; first = t; more = (out-SimpleExpression s).more })).more.items)
    → simple_expression_of (roll-SimpleExpression record { sign = (out-SimpleExpression (roll-SimpleExpression record { sign = (out-SimpleExpression s).sign; first = t; more = (out-SimpleExpression s).more })).sign; first = (out-SimpleExpression (roll-SimpleExpression record { sign = (out-SimpleExpression s).sign; first = t; more = (out-SimpleExpression s).more })).first; more = m }) ≡ tree_with_shifted_leaves by (simple_expression_of s)
simple_moved by s t m first more =
    let between = out-roll-SimpleExpression record { sign = (out-SimpleExpression s).sign; first = t; more = (out-SimpleExpression s).more } in
    simple_made _
    ∙ ap (λ o. sum o.sign (term_of o.first) (items_of addend_of m.items)) between
    ∙ ap (λ u. sum (out-SimpleExpression s).sign u (items_of addend_of m.items)) first
    ∙ ap (sum (out-SimpleExpression s).sign (tree_with_shifted_leaves by (term_of (out-SimpleExpression s).first))) (more ∙ ap (λ o. tree_with_shifted_leaves by (items_of addend_of o.more.items)) between)
    ∙ ap (tree_with_shifted_leaves by) (sym (simple_parts s))

pub term_moved : (by : TokenIndexShift) (t : Term) (f : factor_module.Factor) (m : Vec Multiplier Global)
    → factor_of f ≡ tree_with_shifted_leaves by (factor_of (out-Term t).first)
    → items_of multiplier_of m.items ≡ tree_with_shifted_leaves by (items_of multiplier_of (out-Term (roll-Term record { first = f; more = (out-Term t).more })).more.items)
    → term_of (roll-Term record { first = (out-Term (roll-Term record { first = f; more = (out-Term t).more })).first; more = m }) ≡ tree_with_shifted_leaves by (term_of t)
term_moved by t f m first more =
    let between = out-roll-Term record { first = f; more = (out-Term t).more } in
    term_made _
    ∙ ap (λ o. product (factor_of o.first) (items_of multiplier_of m.items)) between
    ∙ ap (λ u. product u (items_of multiplier_of m.items)) first
    ∙ ap (product (tree_with_shifted_leaves by (factor_of (out-Term t).first))) (more ∙ ap (λ o. tree_with_shifted_leaves by (items_of multiplier_of o.more.items)) between)
    ∙ ap (tree_with_shifted_leaves by) (sym (term_parts t))

pub designator_moved : (by : TokenIndexShift) (d e : Designator) → designator_of e ≡ tree_with_shifted_leaves by (designator_of d) → factor_of (factor_module.Designator e) ≡ tree_with_shifted_leaves by (factor_of (factor_module.Designator d))
designator_moved by d e h = designator_made e ∙ h ∙ ap (tree_with_shifted_leaves by) (sym (designator_made d))

pub record_type_moved : (by : TokenIndexShift) (r q : RecordType) → record_type_of_list q.groups.items ≡ tree_with_shifted_leaves by (record_type_of_list r.groups.items) → type_of (Record q) ≡ tree_with_shifted_leaves by (type_of (Record r))
record_type_moved by r q h = made_record_type q ∙ h ∙ ap (tree_with_shifted_leaves by) (sym (made_record_type r))

pub block_between : (x : Block) (r : _) → x ≡ roll-Block r → out-Block x ≡ r
block_between x r is = ap out-Block is ∙ out-roll-Block r

-- If all parts of a block are moved, one after another from the constants to the body, the block is
-- moved.
pub block_moved : (by : TokenIndexShift) (s w x y z : Block) (cs : Option (Vec ConstantDeclaration Global)) (ts : Option (Vec TypeDeclaration Global)) (vs : Option (Vec VariableDeclaration Global)) (ps : Vec Procedure Global) (b : Option (Vec Statement Global))
    → w ≡ roll-Block record { constants = cs; types = (out-Block s).types; variables = (out-Block s).variables; procedures = (out-Block s).procedures; body = (out-Block s).body }
    → x ≡ roll-Block record { constants = (out-Block w).constants; types = ts; variables = (out-Block w).variables; procedures = (out-Block w).procedures; body = (out-Block w).body }
    → y ≡ roll-Block record { constants = (out-Block x).constants; types = (out-Block x).types; variables = vs; procedures = (out-Block x).procedures; body = (out-Block x).body }
    → z ≡ roll-Block record { constants = (out-Block y).constants; types = (out-Block y).types; variables = (out-Block y).variables; procedures = ps; body = (out-Block y).body }
    → constant_section_of cs ≡ tree_with_shifted_leaves by (constant_section_of (out-Block s).constants)
    → type_section_of ts ≡ tree_with_shifted_leaves by (type_section_of (out-Block w).types)
    → variable_section_of vs ≡ tree_with_shifted_leaves by (variable_section_of (out-Block x).variables)
    → items_of procedure_of ps.items ≡ tree_with_shifted_leaves by (items_of procedure_of (out-Block y).procedures.items)
    → body_of b ≡ tree_with_shifted_leaves by (body_of (out-Block z).body)
    → block_of (roll-Block record { constants = (out-Block z).constants; types = (out-Block z).types; variables = (out-Block z).variables; procedures = (out-Block z).procedures; body = b }) ≡ tree_with_shifted_leaves by (block_of s)
block_moved by s w x y z cs ts vs ps b is_w is_x is_y is_z of_cs of_ts of_vs of_ps of_b =
    let first = block_between w _ is_w in
    let second = block_between x _ is_x ∙ ap (λ o. record { constants = o.constants; types = ts; variables = o.variables; procedures = o.procedures; body = o.body }) first in
    let third = block_between y _ is_y ∙ ap (λ o. record { constants = o.constants; types = o.types; variables = vs; procedures = o.procedures; body = o.body }) second in
    let fourth = block_between z _ is_z ∙ ap (λ o. record { constants = o.constants; types = o.types; variables = o.variables; procedures = ps; body = o.body }) third in
    let ts_moved : type_section_of ts ≡ tree_with_shifted_leaves by (type_section_of (out-Block s).types) = of_ts ∙ ap (λ o. tree_with_shifted_leaves by (type_section_of o.types)) first in
    let vs_moved : variable_section_of vs ≡ tree_with_shifted_leaves by (variable_section_of (out-Block s).variables) = of_vs ∙ ap (λ o. tree_with_shifted_leaves by (variable_section_of o.variables)) second in
    let ps_moved : items_of procedure_of ps.items ≡ tree_with_shifted_leaves by (items_of procedure_of (out-Block s).procedures.items) = of_ps ∙ ap (λ o. tree_with_shifted_leaves by (items_of procedure_of o.procedures.items)) third in
    let b_moved : body_of b ≡ tree_with_shifted_leaves by (body_of (out-Block s).body) = of_b ∙ ap (λ o. tree_with_shifted_leaves by (body_of o.body)) fourth in
    block_made _
    ∙ ap (λ o. forms_block (declares (constant_section_of o.constants) (type_section_of o.types) (variable_section_of o.variables) (items_of procedure_of o.procedures.items)) (body_of b)) fourth
    ∙ same_block of_cs ts_moved vs_moved ps_moved b_moved
    ∙ ap (tree_with_shifted_leaves by) (sym (block_parts s))

pub while_moved : (by : TokenIndexShift) (w v : Box while_module.While Global)
    → expression_of v.value.condition ≡ tree_with_shifted_leaves by (expression_of w.value.condition)
    → sequence_of_list v.value.body.items ≡ tree_with_shifted_leaves by (sequence_of_list w.value.body.items)
    → statement_of (statement_module.While v) ≡ tree_with_shifted_leaves by (statement_of (statement_module.While w))
while_moved by w v of_condition of_body =
    while_made v
    ∙ ap (λ e. while_loop e (sequence_of_list v.value.body.items)) of_condition
    ∙ ap (while_loop (tree_with_shifted_leaves by (expression_of w.value.condition))) of_body
    ∙ ap (tree_with_shifted_leaves by) (sym (while_made w))

pub repeat_moved : (by : TokenIndexShift) (r q : Box repeat_module.Repeat Global)
    → sequence_of_list q.value.body.items ≡ tree_with_shifted_leaves by (sequence_of_list r.value.body.items)
    → expression_of q.value.condition ≡ tree_with_shifted_leaves by (expression_of r.value.condition)
    → statement_of (statement_module.Repeat q) ≡ tree_with_shifted_leaves by (statement_of (statement_module.Repeat r))
repeat_moved by r q of_body of_condition =
    repeat_made q
    ∙ ap (λ s. repeat_loop s (expression_of q.value.condition)) of_body
    ∙ ap (repeat_loop (tree_with_shifted_leaves by (sequence_of_list r.value.body.items))) of_condition
    ∙ ap (tree_with_shifted_leaves by) (sym (repeat_made r))

if_between : (x : If) (r : _) → x ≡ roll-If r → out-If x ≡ r
if_between x r is = ap out-If is ∙ out-roll-If r

same_if : {c d : Tree ℕ expression} {t u : Tree ℕ sequence} {e f : Tree ℕ (items elsif_part)} {o p : Tree ℕ (maybe else_part)}
    → c ≡ d → t ≡ u → e ≡ f → o ≡ p → branches c t e o ≡ branches d u f p
same_if g h i j = cc (g, h, i, j)

-- If all parts of an IF statement are moved, one after another from the condition to the ELSE part,
-- the statement is moved.
pub if_moved : (by : TokenIndexShift) (s x y z : If) (c : Expression) (t : Vec Statement Global) (e : Vec Elsif Global) (o : Option (Vec Statement Global))
    → x ≡ roll-If record { condition = c; then = (out-If s).then; elsifs = (out-If s).elsifs; otherwise = (out-If s).otherwise }
    → y ≡ roll-If record { condition = (out-If x).condition; then = t; elsifs = (out-If x).elsifs; otherwise = (out-If x).otherwise }
    → z ≡ roll-If record { condition = (out-If y).condition; then = (out-If y).then; elsifs = e; otherwise = (out-If y).otherwise }
    → expression_of c ≡ tree_with_shifted_leaves by (expression_of (out-If s).condition)
    → sequence_of_list t.items ≡ tree_with_shifted_leaves by (sequence_of_list (out-If x).then.items)
    → items_of elsif_of e.items ≡ tree_with_shifted_leaves by (items_of elsif_of (out-If y).elsifs.items)
    → else_part_of o ≡ tree_with_shifted_leaves by (else_part_of (out-If z).otherwise)
    → if_of (roll-If record { condition = (out-If z).condition; then = (out-If z).then; elsifs = (out-If z).elsifs; otherwise = o }) ≡ tree_with_shifted_leaves by (if_of s)
if_moved by s x y z c t e o is_x is_y is_z of_c of_t of_e of_o =
    let first = if_between x _ is_x in
    let second = if_between y _ is_y ∙ ap (λ w. record { condition = w.condition; then = t; elsifs = w.elsifs; otherwise = w.otherwise }) first in
    let third = if_between z _ is_z ∙ ap (λ w. record { condition = w.condition; then = w.then; elsifs = e; otherwise = w.otherwise }) second in
    let t_moved : sequence_of_list t.items ≡ tree_with_shifted_leaves by (sequence_of_list (out-If s).then.items) = of_t ∙ ap (λ w. tree_with_shifted_leaves by (sequence_of_list w.then.items)) first in
    let e_moved : items_of elsif_of e.items ≡ tree_with_shifted_leaves by (items_of elsif_of (out-If s).elsifs.items) = of_e ∙ ap (λ w. tree_with_shifted_leaves by (items_of elsif_of w.elsifs.items)) second in
    let o_moved : else_part_of o ≡ tree_with_shifted_leaves by (else_part_of (out-If s).otherwise) = of_o ∙ ap (λ w. tree_with_shifted_leaves by (else_part_of w.otherwise)) third in
    if_made _
    ∙ ap (λ w. branches (expression_of w.condition) (sequence_of_list w.then.items) (items_of elsif_of w.elsifs.items) (else_part_of o)) third
    ∙ same_if of_c t_moved e_moved o_moved
    ∙ ap (tree_with_shifted_leaves by) (sym (if_parts s))
