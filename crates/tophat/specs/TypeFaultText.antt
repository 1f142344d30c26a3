-- What is wrong with the types of a program, as it is told (docs/FORMATS.md, "Statuses").
use Rattle.std.specs.Prelude.{◌++◌, codes, decimal}
use Rattle.task_model.specs.Terms.Text.{Text}
use Rattle.task_model.specs.Syntax.Literal.{basic_text}
use Rattle.task_model.specs.Checking.TypeFault.{TypeKindTerm, unknown_name, duplicate, mismatch, not_pair, not_list, not_ref, ref_in_value, arity, later_call, unguarded, too_many_names, big_type, no_main}

abbrev pub type_fault_text : TypeKindTerm → Text
type_fault_text unknown_name = codes "UnknownName"
type_fault_text duplicate = codes "Duplicate"
type_fault_text (mismatch want got) = codes "Mismatch want " ++ (basic_text want ++ (codes " got " ++ basic_text got))
type_fault_text not_pair = codes "NotPair"
type_fault_text not_list = codes "NotList"
type_fault_text not_ref = codes "NotRef"
type_fault_text ref_in_value = codes "RefInValue"
type_fault_text (arity want got) = codes "Arity want " ++ (decimal want ++ (codes " got " ++ decimal got))
type_fault_text later_call = codes "LaterCall"
type_fault_text unguarded = codes "Unguarded"
type_fault_text too_many_names = codes "TooManyNames"
type_fault_text big_type = codes "BigType"
type_fault_text no_main = codes "NoMain"
