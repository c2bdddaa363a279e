-- Files in memory whose reads never fail, as their callers see them.
use Rattle.pipes_edge.specs.declared.sure_files.SureFiles.{SureFiles}
use Rattle.pipes_edge.specs.ByName.{files_in}
use Rattle.pipes_edge.specs.Outside.{Names}

-- the names and their bytes
abbrev pub sure_names : SureFiles → Names
sure_names sure = files_in sure.files
