-- The answer that a refusal is, and the one that a step which may refuse comes to. Assumes nothing: these are definitions.
use Rattle.std.specs.Prelude.{Bool, true, false, Result, Ok, Err}
use Rattle.logic.specs.declared.Answer.{Answer}
use Rattle.logic.specs.Numbers.{answer, yes_number, no_number, book_length, contents, bounds, formula_length, operator, operand, tree_shape, model_length, model_value, not_encodable, output_length, assignment_length, assignment_value, entry_kind, entry_stretch, stray_variable, bad_text, many_nodes, many_names}
use Rattle.leaves.specs.declared.Refusal.{Refusal}
use Rattle.leaves.specs.declared.Refusal.TheVariants.{BookLength, Contents, Bounds, FormulaLength, Operator, Operand, TreeShape, ModelLength, ModelValue, NotEncodable, OutputLength, AssignmentLength, AssignmentValue, EntryKind, EntryStretch, StrayVariable, BadText, ManyNodes, ManyNames}

-- "Numbers given back": a refusal's number, and its place
abbrev pub refused : Refusal → Answer
refused BookLength = answer book_length 0
refused Contents = answer contents 0
refused Bounds = answer bounds 0
refused FormulaLength = answer formula_length 0
refused (Operator k) = answer operator k
refused (Operand k) = answer operand k
refused (TreeShape k) = answer tree_shape k
refused ModelLength = answer model_length 0
refused (ModelValue i) = answer model_value i
refused NotEncodable = answer not_encodable 0
refused OutputLength = answer output_length 0
refused AssignmentLength = answer assignment_length 0
refused (AssignmentValue i) = answer assignment_value i
refused (EntryKind e) = answer entry_kind e
refused (EntryStretch e) = answer entry_stretch e
refused (StrayVariable x) = answer stray_variable x
refused (BadText i) = answer bad_text i
refused (ManyNodes i) = answer many_nodes i
refused (ManyNames i) = answer many_names i

-- number 0, where nothing is refused
abbrev pub outcome : {A : Type 0} → Result A Refusal → Answer
outcome (Ok _) = answer yes_number 0
outcome (Err r) = refused r

-- number 0 or 1, where nothing is refused
abbrev pub told : Result Bool Refusal → Answer
told (Ok true) = answer yes_number 0
told (Ok false) = answer no_number 0
told (Err r) = refused r
