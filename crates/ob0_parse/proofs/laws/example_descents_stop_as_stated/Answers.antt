use Rattle.std.proofs.Common.{refl}
use Rattle.ob0_parse_descent.proofs.Computed.{computed}
use Rattle.ob0_parse.proofs.laws.example_descents_stop_as_stated.Goals as goal

pub returns-clause-expected : goal.returns-clause-expected
returns-clause-expected c = record {
  empty = computed 200 _ _ _ _ refl;
  equals_for_becomes = computed 200 _ _ _ _ refl;
  selector_without_becomes = computed 200 _ _ _ _ refl;
  no_colon = computed 200 _ _ _ _ refl;
  no_type = computed 200 _ _ _ _ refl;
  token_after_module = computed 200 _ _ _ _ refl;
  no_full_stop = computed 200 _ _ _ _ refl;
  reserved_word_as_name = computed 200 _ _ _ _ refl;
  whole_module = computed 200 _ _ _ _ refl;
}

pub returns-clause-deep : goal.returns-clause-deep
returns-clause-deep c = record {
  ifs = computed 4000 _ _ _ _ refl;
  procedures = computed 4000 _ _ _ _ refl;
  arrays = computed 4000 _ _ _ _ refl;
}
