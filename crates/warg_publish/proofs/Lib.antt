mod FormedLaws
