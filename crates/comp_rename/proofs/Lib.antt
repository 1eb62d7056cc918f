mod RenameLaws
