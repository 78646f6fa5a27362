-- Defines lowered code, the form of a module that the machine executes. A variable is an offset in
-- the cells of an activation. A designator is a place: the offset of a variable, the indices with
-- the lengths of their arrays, and the offset of the selected part. A call refers to its procedure
-- by the procedure's index. Any lowered code has a meaning, even code that no module is lowered to,
-- so the definitions need no premises. If there is no cell at an address, a read there returns 0,
-- and a write there changes nothing. A block is copied only if all its cells exist at both places.
-- If some cells of a block argument don't exist, zeros are passed. A procedure that doesn't exist
-- does nothing. An activation that doesn't exist has base 0 and no addresses. Addresses wrap at 64
-- bits. All arguments of a call are evaluated over the cells before the call. Their values are
-- added one by one at the end of the cells (`pass_arguments`).
-- Rule: none; used in contracts of the machine.
use Rattle.std.specs.Prelude.{ℕ, Bool, List, ℤ}

-- An arithmetic operator on two numbers.
pub data Operator : Type 0 where
  sum difference product quotient remainder : Operator

mutual
  -- Code that finds a variable, or an element or a field in a variable.
  pub data Place : Type 0 where
    -- a place at an offset in the cells of the module
    in_module : (offset : ℕ) → Place
    -- a place at an offset in the cells of the running activation
    in_own_activation : (offset : ℕ) → Place
    -- a place at an offset in the cells of the activation `up` levels out
    outside : (up offset : ℕ) → Place
    -- A place at an offset from the address that was passed for a VAR parameter of the activation
    -- `up` levels out. `index` is the parameter's index among the VAR parameters.
    passed : (up index offset : ℕ) → Place
    -- a place at an offset in the element at an index of an array, which has `length` elements of
    -- `stride` cells each
    element : Place → Number → (length stride offset : ℕ) → Place

  -- An expression whose value is a number: a literal, the cell at a place, or an operation.
  pub data Number : Type 0 where
    literal : ℤ → Number
    cell : Place → Number
    negative : Number → Number
    operation : Operator → Number → Number → Number

-- A relation between two numbers.
pub data Comparator : Type 0 where
  equal not_equal less less_equal greater greater_equal : Comparator

-- An expression whose value is a truth value: a constant, the cell at a place, a relation between
-- numbers, or an operation on truth values.
pub data Truth : Type 0 where
  constant : Bool → Truth
  flag : Place → Truth
  negation : Truth → Truth
  both either : Truth → Truth → Truth
  related : Comparator → Number → Number → Truth
  same different : Truth → Truth → Truth

-- An argument of a call: a place for a VAR parameter, or a value for any other parameter. The value
-- is a number, a truth, or the cells of an array or a record.
pub data LoweredArgument : Type 0 where
  by_place : Place → LoweredArgument
  by_number : Number → LoweredArgument
  by_truth : Truth → LoweredArgument
  by_block : Place → (cells : ℕ) → LoweredArgument

mutual
  -- A statement, with its places, numbers, truths and nested statements.
  pub data Instruction : Type 0 where
    stores_number : Place → Number → Instruction
    stores_truth : Place → Truth → Instruction
    -- copies `cells` cells from the second place to the first
    copies : Place → Place → (cells : ℕ) → Instruction
    reads : Place → Instruction
    writes : Number → Instruction
    writes_line : Instruction
    -- an IF: its conditions with their statements, and the statements if no condition is TRUE
    chooses_branch : Branches → InstructionList → Instruction
    while_loop : Truth → InstructionList → Instruction
    repeat_loop : InstructionList → Truth → Instruction
    -- calls the procedure with this index, which is declared in the activation `up` levels out
    calls : (procedure up : ℕ) → List LoweredArgument → Instruction

  -- A list of statements.
  pub data InstructionList : Type 0 where
    no_statement : InstructionList
    next_statement : Instruction → InstructionList → InstructionList

  -- A list of conditions, each with the statements that run if it is the first TRUE condition.
  pub data Branches : Type 0 where
    no_branch : Branches
    branch : Truth → InstructionList → Branches → Branches

-- Code of a procedure. `cells` is the number of cells of the variables that the procedure declares.
-- The cells of its parameters aren't counted.
pub record Routine : Type 0 where
  pub cells : ℕ
  pub body : InstructionList

-- Code of a module. `cells` is the number of cells of the variables that the module declares
-- outside its procedures. Calls refer to procedures by their indices in `procedures`.
pub record LoweredCode : Type 0 where
  pub cells : ℕ
  pub body : InstructionList
  pub procedures : List Routine
