use Rattle.round_prop.proofs.row.lits_of.Goals as goal

-- the row tells where its clause stands
pub lits_in-requires : goal.lits_in-requires
lits_in-requires g c = (c.args.row.name, c.requires.spanned c.if-row-ge-NOWHERE.false)

pub returns-clause-lits : goal.returns-clause-lits
returns-clause-lits g c = c.lits_in.ensures.lits c.args.row.name (c.requires.spanned c.if-row-ge-NOWHERE.false)
