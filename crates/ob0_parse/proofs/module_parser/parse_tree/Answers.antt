use Rattle.ob0_parse.proofs.module_parser.parse_tree.Goals as goal

pub reparse_tree-requires : goal.reparse_tree-requires
reparse_tree-requires c = c.empty-none.ensures c.args.tokens.now.tokens
