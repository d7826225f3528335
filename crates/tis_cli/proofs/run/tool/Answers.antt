use Rattle.tis_cli.proofs.Statuses.{explained_at, never_words, sink_fault_only, cut_short, some_command, missing_only, missing_where, answered, complete}
use Rattle.tis_cli.proofs.run.tool.Goals as goal

pub returns-in-Some-clause-words : goal.returns-in-Some-clause-words
returns-in-Some-clause-words g c = (
  λ is. absurd (never_words _ _ _ _ _ c.perform.ensures.explains is),
  λ none. some_command none c.in-Some.ensures,
)

pub returns-in-Some-clause-words_touch_nothing : goal.returns-in-Some-clause-words_touch_nothing
returns-in-Some-clause-words_touch_nothing g c = λ is. absurd (never_words _ _ _ _ _ c.perform.ensures.explains is)

pub returns-in-Some-clause-missing_only : goal.returns-in-Some-clause-missing_only
returns-in-Some-clause-missing_only g c = λ command texts called.
    missing_only command _ _ _ _ texts called.texts_told (explained_at _ _ _ _ _ _ command texts c.in-Some.ensures called c.perform.ensures.explains)

pub returns-in-Some-clause-missing_where : goal.returns-in-Some-clause-missing_where
returns-in-Some-clause-missing_where g c = λ command texts called.
    missing_where command _ _ _ _ texts called.texts_told (explained_at _ _ _ _ _ _ command texts c.in-Some.ensures called c.perform.ensures.explains)

pub returns-in-Some-clause-sink_fault_only : goal.returns-in-Some-clause-sink_fault_only
returns-in-Some-clause-sink_fault_only g c = λ failed. (_, c.in-Some.ensures, sink_fault_only _ _ _ _ _ c.perform.ensures.explains failed)

pub returns-in-Some-clause-cut_short : goal.returns-in-Some-clause-cut_short
returns-in-Some-clause-cut_short g c = λ command texts called.
    cut_short command _ _ _ _ texts called.texts_told (explained_at _ _ _ _ _ _ command texts c.in-Some.ensures called c.perform.ensures.explains)

pub returns-in-Some-clause-answered : goal.returns-in-Some-clause-answered
returns-in-Some-clause-answered g c = λ command texts called.
    answered command _ _ _ _ texts called.texts_told (explained_at _ _ _ _ _ _ command texts c.in-Some.ensures called c.perform.ensures.explains)

pub returns-in-Some-clause-complete : goal.returns-in-Some-clause-complete
returns-in-Some-clause-complete g c = λ command texts found answer called.
    complete command _ _ _ _ texts found answer called.texts_told (explained_at _ _ _ _ _ _ command texts c.in-Some.ensures called c.perform.ensures.explains)
